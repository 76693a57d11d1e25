-- What several views of one file tell.
use Rattle.std.proofs.Common.{◌≡◌, ◌∙◌, ℕ, ◌<◌, ◌≤◌, List, [], ◌∷◌, length, map, slice_index, slice_index_or, All, Option, Result, IfSome, ap, arith, refl, sym, subst}
use Rattle.std.proofs.lemmas.List.{get_or-map, length-map}
use Rattle.std.proofs.lemmas.List.Elements.{All-map}
use Rattle.std.specs.Map.{count_at}
use Rattle.buzhash_cut.specs.Sizes.{Sizes}
use Rattle.chunk_store.specs.Said.{Said}
use Rattle.chunk_store.specs.declared.id.DigestKind.{DigestKind}
use Rattle.command_steps.proofs.Numbers.{given_rose, rose_longer}
use Rattle.command_worlds.specs.Worlds.{FileRose}
use Rattle.dsy_base.specs.Bytes.{Held}
use Rattle.dsy_base.specs.Counts.{Rose, raised}
use Rattle.dsy_base.specs.Disk.{Disk}
use Rattle.dsy_base.specs.Maps.{Map}
use Rattle.image_store.specs.PutChunks.{ToldMap}
use Rattle.image_store.specs.StoreImage.{PutsFilesOf, SaysOf, StoresImage}
use Rattle.image_store.specs.declared.put_chunks.MakeFault.{MakeFault}
use Rattle.image_views.specs.Views.{AreOf, IfFirst}

-- what holds for each view's image holds for what they tell
pub of_first : {X : Type 0} (H : X → Held) (xs : List X) (q : List ℕ) (told : Option (List ℕ)) → 0 < length xs → AreOf q told (map H xs) → (P : Option (List ℕ) → Type 0) → All (λ v. P (H v).bytes) xs → P told
of_first H [] q told some are P all = absurd (omega (arith, some))
of_first H (x ∷ xs) q told some are P all = subst P (are 0 (H x) (omega arith)).1 (all 0 x (omega arith))

-- what holds of the views that were lent holds of those that came back
pub all_kept : {X : Type 0} (H : X → Held) (old new : List X) → map H new ≡ map H old → (P : Held → Type 0) → All (λ v. P (H v)) old → All (λ v. P (H v)) new
all_kept H old new same P all = λ k d lt.
    let mapped : All P (map H new) = subst (All P) (sym same) (All-map P H old all) in
    subst P (get_or-map H new k d (H d) lt) (mapped k (H d) (omega (arith, length-map new H, lt)))

-- a fault of the first view, where none had counted any, is one of its name
pub first_rose : {X : Type 0} (H : X → Held) (f : X → ℕ) (d e : Disk) (old new : List X) (q : List ℕ) (told : Option (List ℕ)) → 0 < length old → map H new ≡ map H old → AreOf q told (map H old) → All (λ v. f v ≡ 0) old
    → IfFirst (λ v. raised (count_at d.file_counts (H v).name) (f v) ≤ count_at e.file_counts (H v).name) new → Rose (slice_index (map f old) 0) (slice_index (map f new) 0) → FileRose d e q
first_rose H f d e [] new q told some same are none added rose = absurd (omega (arith, some))
first_rose H f d e (x ∷ xs) [] q told some same are none added rose = absurd (omega (arith, ap length same))
first_rose H f d e (x ∷ xs) (y ∷ ys) q told some same are none added rose =
    let name : (H y).name ≡ q = ap (λ (hs : List Held). (slice_index_or hs 0 (H x)).name) same ∙ (are 0 (H x) (omega arith)).0 in
    let more : Rose 0 (f y) = subst (λ (n : ℕ). Rose n (f y)) (none 0 x (omega arith)) rose in
    let a : ℕ = count_at d.file_counts (H y).name in
    subst (FileRose d e) name (rose_longer a (raised a (f y)) (count_at e.file_counts (H y).name) added (given_rose a a (raised a (f y)) (f y) (omega arith) refl more))

-- what storing says of each view's image, of what they tell
module _ {X : Type 0} (H : X → Held) (xs : List X) (q : List ℕ) (told : Option (List ℕ)) (some : 0 < length xs) (are : AreOf q told (map H xs)) (kind : DigestKind) (s : Sizes) where
  pub exactly_of : {A : Type 0} (bytes_of : A → List ℕ) (old new : Option (Map (List ℕ))) (r : Result A MakeFault) → All (λ v. IfSome (H v).bytes (λ t. IfSome old (λ a. IfSome new (λ b. StoresImage kind s bytes_of t a b r)))) xs
      → IfSome told (λ t. IfSome old (λ a. IfSome new (λ b. StoresImage kind s bytes_of t a b r)))
  exactly_of bytes_of old new r = of_first H xs q told some are (λ o. IfSome o (λ t. IfSome old (λ a. IfSome new (λ b. StoresImage kind s bytes_of t a b r))))

  pub files_of : (held old new : ToldMap) → All (λ v. PutsFilesOf kind s (H v).bytes held old new) xs → PutsFilesOf kind s told held old new
  files_of held old new = of_first H xs q told some are (λ o. PutsFilesOf kind s o held old new)

  pub said_of : (bytes : List ℕ) (said : Said) → All (λ v. SaysOf kind s (H v).bytes bytes said) xs → SaysOf kind s told bytes said
  said_of bytes said = of_first H xs q told some are (λ o. SaysOf kind s o bytes said)
