-- Counts over the steps of a command. Where none rises, what opens and reads is refused only for want of memory.
use Rattle.std.proofs.Common.{arith, true, false, suc, ◌≡◌, ◌∙◌, ℕ, ◌+◌, ◌<◌, ◌≤◌, List, [], ◌∷◌, Option, Some, None, IfSome, IsSome, refl, subst, sym, inl, inr, Err}
use Rattle.std.proofs.lemmas.Option.{none-some, same_Some}
use Rattle.std.specs.List.{All, AllZip}
use Rattle.std.specs.Map.{count_at}
use Rattle.caibx_codec.proofs.Again.{one_index}
use Rattle.caibx_codec.specs.Listing.{Listing, count_of}
use Rattle.caibx_codec.specs.Spelling.{IsIndexFile}
use Rattle.command_outcome.specs.declared.outcome.Outcome.{Outcome}
use Rattle.command_outcome.specs.declared.outcome.Outcome.TheVariants as ends
use Rattle.command_steps.proofs.Numbers.{rose_longer, rose_not_quiet}
use Rattle.command_steps.specs.Cache.{CacheOpened}
use Rattle.command_steps.specs.InputFiles.{IsBad, IsListed, NotRead}
use Rattle.command_steps.specs.Seeds.{NoneListed, items_with}
use Rattle.command_steps.specs.Sources.{FirstUnreached, IsThere, Unreached}
use Rattle.command_steps.specs.Stores.{NotReached}
use Rattle.command_words.specs.declared.command.Location.{Location}
use Rattle.command_words.specs.declared.command.Location.TheVariants as locations
use Rattle.command_worlds.specs.Worlds.{DiskQuiet, FileRose, FolderRose, Reads, Writes}
use Rattle.dsy_base.specs.Disk.{Disk}
use Rattle.dsy_base.specs.Maps.{Map}
use Rattle.extract_command.specs.Extract.{ExtractStores, FillsCache}
use Rattle.extract_plan.specs.Places.{seed_item_limit}

-- ---- numbers over the steps

-- no number falls
pub record Climbs (d e : Disk) : Type 0 where
  pub files : (q : List ℕ) → count_at d.file_counts q ≤ count_at e.file_counts q
  pub folders : (q : List ℕ) → count_at d.folder_counts q ≤ count_at e.folder_counts q

pub climbs_on : (d b e : Disk) → Climbs d b → Climbs b e → Climbs d e
climbs_on d b e u v = record { files = λ q. omega (arith, u.files q, v.files q); folders = λ q. omega (arith, u.folders q, v.folders q) }

pub read_climbs : (d e : Disk) → Reads d e → Climbs d e
read_climbs d e r = record { files = r.counts; folders = r.folder_counts }

pub wrote_climbs : (d e : Disk) → Writes d e → Climbs d e
wrote_climbs d e r = record { files = r.counts; folders = r.folder_counts }

pub filled_climbs : (stores : ExtractStores) (cache : Option (List ℕ)) (l : Listing) (d e : Disk) → FillsCache stores cache l d e → Climbs d e
filled_climbs stores cache l d e r = record { files = r.counts; folders = r.folder_counts }

-- nothing failed between
pub record NoneRose (d e : Disk) : Type 0 where
  pub files : (q : List ℕ) → FileRose d e q → ⊥
  pub folders : (q : List ℕ) → FolderRose d e q → ⊥

pub none_rose : (w d e v : Disk) → DiskQuiet w v → Climbs w d → Climbs e v → NoneRose d e
none_rose w d e v quiet u x = record {
  files = λ q rose. rose_not_quiet (count_at w.file_counts q) (count_at d.file_counts q) (count_at v.file_counts q) (u.files q) (rose_longer (count_at d.file_counts q) (count_at e.file_counts q) (count_at v.file_counts q) (x.files q) rose) (quiet.files q);
  folders = λ q rose. rose_not_quiet (count_at w.folder_counts q) (count_at d.folder_counts q) (count_at v.folder_counts q) (u.folders q) (rose_longer (count_at d.folder_counts q) (count_at e.folder_counts q) (count_at v.folder_counts q) (x.folders q) rose) (quiet.folders q);
}

-- ---- the steps before the assembly

pub same_listing : (b : Map (List ℕ)) (q : List ℕ) (l m : Listing) → IsListed b q l → IsListed b q m → l ≡ m
same_listing b q l m x y =
    let same : x.bytes ≡ y.bytes = same_Some _ _ (sym x.there ∙ y.there) in
    one_index y.bytes l m (subst (λ c. IsIndexFile c l) same x.file) y.file

module _ (d e : Disk) (b : Map (List ℕ)) (files : d.files ≡ Some b) (none : NoneRose d e) where
  pub unread : (q : List ℕ) (l : Listing) (o : Outcome) → IsListed b q l → NotRead d e q o → o ≡ ends.Memory
  unread q l (ends.NoFile name) is h =
      let gone : b q ≡ None = subst (λ f. IfSome f (λ m. m q ≡ None)) files h.1 in
      absurd (none-some _ (sym gone ∙ is.there))
  unread q l (ends.BadIndex name fault) is h =
      let bad : (c : List ℕ) × (b q ≡ Some c) × IsBad c fault = subst (λ f. IfSome f (λ m. (c : List ℕ) × (m q ≡ Some c) × IsBad c fault)) files h.1 in
      let same : is.bytes ≡ bad.0 = same_Some _ _ (sym is.there ∙ bad.1) in
      absurd (bad.2.none l (subst (λ c. IsIndexFile c l) same is.file))
  unread q l (ends.FileFault name) is h = absurd (none.files q h.1)
  unread q l ends.Memory is h = refl
  unread q l other is h = absurd h

  no_fewer : (n : ℕ) (ls : List Listing) → n ≤ items_with n ls
  no_fewer n [] = omega arith
  no_fewer n (l ∷ ls) = let more = no_fewer (n + count_of l) ls in omega (arith, more)

  pub seeds_unread : (n : ℕ) (names : List (List ℕ)) (ls : List Listing) (o : Outcome) → AllZip (λ q l. IsListed b q l) names ls → items_with n ls ≤ seed_item_limit → NoneListed d e n names o → o ≡ ends.Memory
  seeds_unread n [] ls o zip few h = absurd h
  seeds_unread n (q ∷ names) [] o zip few h = absurd zip
  seeds_unread n (q ∷ names) (l ∷ ls) o zip few (inl h) = unread q l o zip.0 h
  seeds_unread n (q ∷ names) (l ∷ ls) o zip few (inr (m, listed, inl much)) =
      let same : m ≡ l = same_listing b q m l (subst (λ f. IfSome f (λ x. IsListed x q m)) files listed) zip.0 in
      let over : seed_item_limit < n + count_of l = subst (λ (x : Listing). seed_item_limit < n + count_of x) same much.1 in
      let more = no_fewer (n + count_of l) ls in
      absurd (omega (arith, over, more, few))
  seeds_unread n (q ∷ names) (l ∷ ls) o zip few (inr (m, listed, inr rest)) =
      let same : m ≡ l = same_listing b q m l (subst (λ f. IfSome f (λ x. IsListed x q m)) files listed) zip.0 in
      seeds_unread (n + count_of l) names ls o zip.1 few (subst (λ (x : Listing). NoneListed d e (n + count_of x) names o) same rest.1)

module _ (d e : Disk) (n : Map (Map (List ℕ))) (folders : d.folders ≡ Some n) (none : NoneRose d e) where
  gone_not : {X : Type 0} (o : Option X) → IsSome o → o ≡ None → ⊥
  gone_not None there gone = let no : false ≡ true = there in absurd (cc)
  gone_not (Some x) there gone = none-some x (sym gone)

  not_reached : (q : List ℕ) (o : Outcome) → IsSome (n q) → NotReached d e q o → o ≡ ends.Memory
  not_reached q (ends.NoFolder name) there h =
      let gone : n q ≡ None = subst (λ f. IfSome f (λ m. m q ≡ None)) folders h.1 in
      absurd (gone_not (n q) there gone)
  not_reached q (ends.FileFault name) there h = absurd (none.folders q h.1)
  not_reached q ends.Memory there h = refl
  not_reached q other there h = absurd h

  one_unreached : (s : Location) (o : Outcome) → IsThere n s → Unreached d e s o → o ≡ ends.Memory
  one_unreached s ends.Memory there h = refl
  one_unreached (locations.Folder q) o there h = not_reached q o there h
  one_unreached (locations.Http host port prefix) o there h = absurd h

  pub unreached : (stores : List Location) (o : Outcome) → All (IsThere n) stores → FirstUnreached d e stores o → o ≡ ends.Memory
  unreached [] o there h = absurd h
  unreached (s ∷ stores) o there (inl h) = one_unreached s o (there 0 s (omega arith)) h
  unreached (s ∷ stores) o there (inr h) = unreached stores o (λ j q lt. there (suc j) q (omega (arith, lt))) h.1

  pub cache_unreached : (stores : List Location) (cache : Option (List ℕ)) (o : Outcome) → IfSome cache (λ c. IsSome (n c)) → CacheOpened stores cache d (Err o) e → o ≡ ends.Memory
  cache_unreached stores None o there h = absurd h
  cache_unreached stores (Some c) o there h = not_reached c o there h.0

pub self_climbs : (d : Disk) → Climbs d d
self_climbs d = record { files = λ q. omega arith; folders = λ q. omega arith }
