-- The ids that were seen.
use Rattle.std.proofs.Common.{◌≡◌, ◌≢◌, ℕ, ◌+◌, List, Bool, true, false, cond, refl, sym, ap, ◌∙◌, inl, inr, arith, not, ◌||◌}
use Rattle.std.proofs.lemmas.Map.Text.{is_eq-slice_cmp}
use Rattle.std.proofs.lemmas.Slice.Eq.{bytes_eq-Decides}
use Rattle.std.specs.BTreeSet.{BTreeSet}
use Rattle.std.specs.Cmp.Lexicographic.{slice_cmp}
use Rattle.std.specs.Ordering.{nat_cmp, is_eq}
use Rattle.std.specs.Str.{bytes_eq}
use Rattle.caibx_codec.specs.Listing.{Listing, id_of}
use Rattle.image_store.proofs.Names.{apart_is, equal_or_not}
use Rattle.image_store.specs.PutChunks.{IsListedId}
use Rattle.image_store.specs.Putting.{AreSeen, is_seen}

pub seen_more : (id q : List ℕ) (old new : Bool) → new ≡ cond (is_eq (slice_cmp nat_cmp id q)) true old → new ≡ (bytes_eq id q || old)
seen_more id q old new h = h ∙ ap (λ b. cond b true old) (is_eq-slice_cmp id q) ∙ go (bytes_eq id q) where
  go : (b : Bool) → cond b true old ≡ (b || old)
  go true = refl
  go false = refl

pub seen_on : (l : Listing) (i : ℕ) (id : List ℕ) (old new : BTreeSet (List ℕ)) → id ≡ id_of l i
    → ((q : List ℕ) → is_seen new q ≡ (bytes_eq id q || is_seen old q)) → AreSeen l i old → AreSeen l (i + 1) new
seen_on l i id old new is changed seen = λ q h. elim (equal_or_not id q) [
  | inl same ↦ record { entry = i; below = omega arith; id = sym same ∙ is }
  | inr other ↦
      let was = seen q (sym (ap (λ b. b || is_seen old q) (apart_is id q other)) ∙ sym (changed q) ∙ h) in
      record { entry = was.entry; below = omega (arith, was.below); id = was.id }
]

differs : (id q : List ℕ) → bytes_eq id q ≡ false → q ≢ id
differs id q apart = λ e. let z : true ≡ false = sym ((bytes_eq-Decides id q).1 (sym e)) ∙ apart in absurd (cc)

-- an id that isn't in the set now is another one, and wasn't in it
pub unseen_before : (id q : List ℕ) (old new : BTreeSet (List ℕ)) → ((p : List ℕ) → is_seen new p ≡ (bytes_eq id p || is_seen old p)) → is_seen new q ≡ false → (q ≢ id) × (is_seen old q ≡ false)
unseen_before id q old new changed h = go (bytes_eq id q) refl (is_seen old q) refl (sym (changed q) ∙ h) where
  go : (b : Bool) → bytes_eq id q ≡ b → (o : Bool) → is_seen old q ≡ o → (b || o) ≡ false → (q ≢ id) × (is_seen old q ≡ false)
  go true apart o was none = let z : true ≡ false = none in absurd (cc)
  go false apart true was none = let z : true ≡ false = none in absurd (cc)
  go false apart false was none = (differs id q apart, was)

pub not_true : (b : Bool) → true ≡ not b → b ≡ false
not_true true h = let z : true ≡ false = h in absurd (cc)
not_true false h = refl

pub not_false : (b : Bool) → false ≡ not b → b ≡ true
not_false true h = refl
not_false false h = let z : false ≡ true = h in absurd (cc)

-- an id that isn't new is that of an entry before
pub listed_before : (l : Listing) (i : ℕ) (id : List ℕ) (seen : BTreeSet (List ℕ)) → id ≡ id_of l i → false ≡ not (is_seen seen id) → AreSeen l i seen → IsListedId l i (id_of l i)
listed_before l i id seen is found known =
    let was = known id (not_false (is_seen seen id) found) in
    record { entry = was.entry; below = was.below; id = sym is ∙ was.id }
