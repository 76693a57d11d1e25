-- Every run of the core machine keeps what is good.
use Rattle.std.proofs.Common.{◌≡◌, ℕ, ◌<◌, Bool, true, false, ◌||◌, ◌==◌, List, [], ◌∷◌, ◌++◌, length, refl, sym, ap, subst, ◌∙◌, inl, inr, arith}
use Rattle.std.proofs.lemmas.Bool.{cases_eq}
use Rattle.std.proofs.lemmas.Bool.Decides.{nat_tests}
use Rattle.caibx_codec.specs.Listing.{Listing, count_of, kind_of}
use Rattle.chunk_store.specs.Digests.{digest_of}
use Rattle.range_ledger.proofs.Laid.{put_size, put_here, put_other}
use Rattle.range_ledger.specs.Extents.{Extent, IsIn, IsRightIn, IsValidExtent, length_in, put_in_extent, slice_in, whole}
use Rattle.range_ledger.specs.Machine.{State, Event, Settle, Read, Put, Skip, Torn, begin, with_entry, Allowed, after, IsRun, run, Good, IsRunOf, StaysSettled, state_after}

or_true : (b : Bool) → (b || true) ≡ true
or_true true = refl
or_true false = refl

abbrev as_number : Bool → ℕ
as_number true = 1
as_number false = 0

apart : (b : Bool) → b ≡ true → b ≡ false → ⊥
apart b is isnt = let e : 1 ≡ 0 = ap as_number (sym is ∙ isnt) in omega (arith, e)

pub with_here : (set : ℕ → Bool) (i : ℕ) → with_entry set i i ≡ true
with_here set i = let e : (i == i) ≡ true = grind (arith, nat_tests) in ap (λ b. b || set i) e

pub with_other : (set : ℕ → Bool) (i j : ℕ) → (j ≡ i → ⊥) → with_entry set i j ≡ set j
with_other set i j differ = let e : (j == i) ≡ false = grind (arith, nat_tests) in ap (λ b. b || set j) e

with_more : (set : ℕ → Bool) (i j : ℕ) → set j ≡ true → with_entry set i j ≡ true
with_more set i j had = ap (λ b. (j == i) || b) had ∙ or_true (j == i)

module _ (x : Extent) (base : List ℕ) (laid : IsValidExtent x) where
  step : (s : State) (e : Event) → Good x base s → Allowed x s e → Good x base (after x s e)
  step s (Settle i) g a = record {
    size = g.size;
    right = λ j less h. elim (cases_eq j i) [
      | inl same ↦ subst (λ k. IsRightIn x s.bytes k) (sym same) a.1
      | inr differ ↦ g.right j less (sym (with_other s.settled i j differ) ∙ h)
    ];
    untouched = λ j less h k. elim (cases_eq j i) [
      | inl same ↦ absurd (apart (with_entry s.settled i j) (subst (λ k. with_entry s.settled i k ≡ true) (sym same) (with_here s.settled i)) h)
      | inr differ ↦ g.untouched j less (sym (with_other s.settled i j differ) ∙ h) k
    ];
  }
  step s (Read i reply) g a = g
  step s (Skip i) g a = g
  step s (Put i b) g a = record {
    size = put_size x laid i a.0 b a.2.size s.bytes g.size;
    right = λ j less h. elim (cases_eq j i) [
      | inl same ↦ subst (λ k. IsRightIn x (put_in_extent x i b s.bytes) k) (sym same) (ap (digest_of (kind_of x.listing)) (put_here x laid i a.0 b a.2.size s.bytes g.size) ∙ a.2.named)
      | inr differ ↦ ap (digest_of (kind_of x.listing)) (put_other x laid i a.0 b a.2.size s.bytes g.size j less differ) ∙ g.right j less (sym (with_other s.settled i j differ) ∙ h)
    ];
    untouched = λ j less h k. elim (cases_eq j i) [
      | inl same ↦ absurd (apart (with_entry s.settled i j) (subst (λ k. with_entry s.settled i k ≡ true) (sym same) (with_here s.settled i)) h)
      | inr differ ↦ put_other x laid i a.0 b a.2.size s.bytes g.size j less differ ∙ g.untouched j less (sym (with_other s.settled i j differ) ∙ h) k
    ];
  }
  step s (Torn i b) g a = record {
    size = put_size x laid i a.0 b a.2 s.bytes g.size;
    right = λ j less h. elim (cases_eq j i) [
      | inl same ↦ absurd (apart (s.settled i) (subst (λ k. s.settled k ≡ true) same h) a.1)
      | inr differ ↦ ap (digest_of (kind_of x.listing)) (put_other x laid i a.0 b a.2 s.bytes g.size j less differ) ∙ g.right j less h
    ];
    untouched = λ j less h k. elim (cases_eq j i) [
      | inl same ↦ absurd (apart (with_entry s.torn i j) (subst (λ k. with_entry s.torn i k ≡ true) (sym same) (with_here s.torn i)) k)
      | inr differ ↦ put_other x laid i a.0 b a.2 s.bytes g.size j less differ ∙ g.untouched j less h (sym (with_other s.torn i j differ) ∙ k)
    ];
  }

  good_run : (es : List Event) (s : State) → Good x base s → IsRun x s es → Good x base (run x s es)
  good_run [] s g r = g
  good_run (e ∷ es) s g r = good_run es (after x s e) (step s e g r.0) r.1

  module _ (j : ℕ) (less : IsIn x j) where
    stays : (s : State) (e : Event) → Good x base s → Allowed x s e → s.settled j ≡ true → ((after x s e).settled j ≡ true) × (slice_in x (after x s e).bytes j ≡ slice_in x s.bytes j)
    stays s (Settle i) g a h = (with_more s.settled i j h, refl)
    stays s (Read i reply) g a h = (h, refl)
    stays s (Skip i) g a h = (h, refl)
    stays s (Put i b) g a h = (with_more s.settled i j h, put_other x laid i a.0 b a.2.size s.bytes g.size j less (λ same. apart (s.settled i) (subst (λ k. s.settled k ≡ true) same h) a.1))
    stays s (Torn i b) g a h = (h, put_other x laid i a.0 b a.2 s.bytes g.size j less (λ same. apart (s.settled i) (subst (λ k. s.settled k ≡ true) same h) a.1))

    stays_all : (es : List Event) (s : State) → Good x base s → IsRun x s es → s.settled j ≡ true → ((run x s es).settled j ≡ true) × (slice_in x (run x s es).bytes j ≡ slice_in x s.bytes j)
    stays_all [] s g r h = (h, refl)
    stays_all (e ∷ es) s g r h =
        let one = stays s e g r.0 h in
        let rest = stays_all es (after x s e) (step s e g r.0) r.1 one.0 in
        (rest.0, rest.1 ∙ one.1)

    stays_later : (es later : List Event) (s : State) → Good x base s → IsRun x s (es ++ later) → (run x s es).settled j ≡ true
        → ((run x s (es ++ later)).settled j ≡ true) × (slice_in x (run x s (es ++ later)).bytes j ≡ slice_in x (run x s es).bytes j)
    stays_later [] later s g r h = stays_all later s g r h
    stays_later (e ∷ es) later s g r h = stays_later es later (after x s e) (step s e g r.0) r.1 h

good_start : (x : Extent) (base : List ℕ) → length base ≡ length_in x → Good x base (begin base)
good_start x base size = record { size = size; right = λ i less h. absurd (apart false h refl); untouched = λ i less h k. refl }

laid_whole : (l : Listing) (base : List ℕ) (es : List Event) → IsRunOf l base es → IsValidExtent (whole l)
laid_whole l base es r = record { valid = r.valid; within = omega arith; some = omega arith }

pub every_run : (l : Listing) (base : List ℕ) (es : List Event) → IsRunOf l base es → Good (whole l) base (state_after l base es)
every_run l base es r = good_run (whole l) base (laid_whole l base es r) es (begin base) (good_start (whole l) base r.size) r.allowed

pub settled_stays : (l : Listing) (base : List ℕ) (es later : List Event) (i : ℕ) → IsRunOf l base (es ++ later) → i < count_of l
    → (state_after l base es).settled i ≡ true → StaysSettled l base es later i
settled_stays l base es later i r less h =
    let both = stays_later (whole l) base (laid_whole l base (es ++ later) r) i (record { from = omega arith; to = less }) es later (begin base) (good_start (whole l) base r.size) r.allowed h in
    record { settled = both.0; bytes = both.1 }
