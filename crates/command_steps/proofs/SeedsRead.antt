-- Seeds' names, and their indexes that are read in order.
use Rattle.std.proofs.Common.{◌≡◌, ◌≢◌, ℕ, ◌+◌, ◌-◌, ◌≤◌, List, [], ◌∷◌, ◌++◌, length, take, drop, codes, Bool, true, false, cond, Some, None, IfSome, Ok, refl, sym, ap, subst, ◌∙◌, inl, inr}
use Rattle.std.proofs.lemmas.List.{append_assoc, take-append-drop}
use Rattle.std.proofs.lemmas.Slice.Eq.{bytes_eq-Decides}
use Rattle.std.specs.Map.{count_at}
use Rattle.std.specs.Str.{bytes_eq}
use Rattle.caibx_codec.specs.Listing.{Listing, count_of}
use Rattle.command_outcome.specs.declared.outcome.Outcome.{Outcome}
use Rattle.command_outcome.specs.declared.outcome.Outcome.TheVariants as ends
use Rattle.command_steps.proofs.Numbers.{rose_later}
use Rattle.command_steps.specs.InputFiles.{IsBad, IsListed, Listed, NotRead}
use Rattle.command_steps.specs.Seeds.{AllListed, CountedWith, NoneListed, image_name, items_with}
use Rattle.command_worlds.specs.Worlds.{Reads}
use Rattle.dsy_base.specs.Disk.{Disk}
use Rattle.extract_plan.specs.Places.{seed_item_limit}

-- a name that doesn't end so is kept
pub whole_name : (q : List ℕ) → ((front : List ℕ) → q ≢ front ++ codes ".caibx") → q ≡ image_name q
whole_name q other = go (bytes_eq (drop (length q - 6) q) (codes ".caibx")) refl where
  go : (b : Bool) → bytes_eq (drop (length q - 6) q) (codes ".caibx") ≡ b → q ≡ cond b (take (length q - 6) q) q
  go false is = refl
  go true is =
      let ends : drop (length q - 6) q ≡ codes ".caibx" = (bytes_eq-Decides (drop (length q - 6) q) (codes ".caibx")).0 is in
      absurd (other (take (length q - 6) q) (sym (take-append-drop (length q - 6) q) ∙ ap (λ r. take (length q - 6) q ++ r) ends))

-- ---- what was read over a later disk

read_later : (d b e : Disk) → Reads d b → (q : List ℕ) (o : Outcome) → NotRead b e q o → NotRead d e q o
read_later d b e r q (ends.NoFile name) h = (h.0, subst (λ f. IfSome f (λ m. m q ≡ None)) r.files h.1)
read_later d b e r q (ends.BadIndex name fault) h = (h.0, subst (λ f. IfSome f (λ m. (t : List ℕ) × (m q ≡ Some t) × IsBad t fault)) r.files h.1)
read_later d b e r q (ends.FileFault name) h = (h.0, rose_later (count_at d.file_counts q) (count_at b.file_counts q) (count_at e.file_counts q) (r.counts q) h.1)
read_later d b e r q ends.Memory h = tt
read_later d b e r q other h = absurd h

listed_later : (d b : Disk) → Reads d b → (q : List ℕ) (l : Listing) → Listed b q l → Listed d q l
listed_later d b r q l h = subst (λ f. IfSome f (λ m. IsListed m q l)) r.files h

pub all_later : (d b : Disk) → Reads d b → (names : List (List ℕ)) (ls : List Listing) → AllListed b names ls → AllListed d names ls
all_later d b r [] [] h = h
all_later d b r [] (l ∷ ls) h = absurd h
all_later d b r (q ∷ names) [] h = absurd h
all_later d b r (q ∷ names) (l ∷ ls) h = (listed_later d b r q l h.0, all_later d b r names ls h.1)

pub none_later : (d b e : Disk) → Reads d b → (n : ℕ) (names : List (List ℕ)) (o : Outcome) → NoneListed b e n names o → NoneListed d e n names o
none_later d b e r n [] o h = h
none_later d b e r n (q ∷ names) o (inl h) = inl (read_later d b e r q o h)
none_later d b e r n (q ∷ names) o (inr (l, listed, inl h)) = inr (l, listed_later d b r q l listed, inl h)
none_later d b e r n (q ∷ names) o (inr (l, listed, inr h)) = inr (l, listed_later d b r q l listed, inr (h.0, none_later d b e r (n + count_of l) names o h.1))

-- ---- one index, and then the rest

pub all_more : (d b : Disk) → Reads d b → (q : List ℕ) (names : List (List ℕ)) (l : Listing) (n m most : ℕ) (old mid new : List Listing) → Listed d q l → m ≡ n + count_of l → mid ≡ old ++ l ∷ []
    → (ls : List Listing) × AllListed b names ls × (items_with m ls ≤ most) × (new ≡ mid ++ ls)
    → (ls : List Listing) × AllListed d (q ∷ names) ls × (items_with n ls ≤ most) × (new ≡ old ++ ls)
all_more d b r q names l n m most old mid new listed counted same (ls, all, few, are) =
    (l ∷ ls, (listed, all_later d b r names ls all), subst (λ (k : ℕ). items_with k ls ≤ most) counted few, are ∙ ap (λ (m : List Listing). m ++ ls) same ∙ append_assoc old (l ∷ []) ls)

pub none_more : (d b e : Disk) → Reads d b → (q : List ℕ) (names : List (List ℕ)) (l : Listing) (n m : ℕ) (o : Outcome) → Listed d q l → CountedWith n l (Ok m)
    → NoneListed b e m names o → NoneListed d e n (q ∷ names) o
none_more d b e r q names l n m o listed counted none =
    inr (l, listed, inr (subst (λ (k : ℕ). k ≤ seed_item_limit) counted.0 counted.1, none_later d b e r (n + count_of l) names o (subst (λ (k : ℕ). NoneListed b e k names o) counted.0 none)))
