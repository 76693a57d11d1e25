-- Which source a chunk has: what the tests of specs/Economy tell, and what the answers then are.
use Rattle.std.proofs.Common.{◌≡◌, ◌⊎◌, ℕ, ◌<◌, ◌^◌, ◌==◌, nat_le, List, length, slice_index_or, Option, Some, None, IsSomeAnd, Bool, Decides, Result, Ok, Err, true, false, if◌then◌else◌, refl, sym, ap, ◌∙◌, subst, inl, inr, arith}
use Rattle.std.proofs.lemmas.Bool.{cases_Bool, false_from_ne_true, false≢true, le-leb, leb-true}
use Rattle.std.proofs.lemmas.Bool.Decides.{Decides-and, Decides-eqb}
use Rattle.std.proofs.lemmas.List.{get_or_default}
use Rattle.std.proofs.lemmas.List.Folds.{Any-from_list_any, list_any-from_Any, list_any_at}
use Rattle.std.proofs.lemmas.Option.{none-some, same_Some}
use Rattle.std.proofs.lemmas.Slice.Eq.{bytes_eq-Decides}
use Rattle.std.specs.List.{Any, list_any}
use Rattle.std.specs.Str.{bytes_eq}
use Rattle.cache_store.specs.Giving.{SomeGives}
use Rattle.chunk_sources.specs.Economy.{AnsweredAs, AnsweredBy, ObtainedBy, as_upstream, given_at, source_behind, is_chunk, seeds_give, source_among, stores_give, told_at}
use Rattle.chunk_sources.specs.Sources.{GivesAt, HeldAt, SeedsGive}
use Rattle.chunk_sources.specs.Wants.{IsAmong, Wanted}
use Rattle.chunk_store.specs.Giving.{GivesChunk, IsChunk}
use Rattle.chunk_store.specs.Digests.{digest_of}
use Rattle.chunk_store.specs.declared.id.DigestKind.{DigestKind}
use Rattle.dsy_base.specs.Bytes.{Held}
use Rattle.dsy_base.specs.Counts.{raised}
use Rattle.dsy_base.specs.Maps.{Map}
use Rattle.extract_plan.specs.Seeds.{bytes_at, place_end}
use Rattle.extract_plan.specs.declared.seed.SeedPlace.{SeedPlace}
use Rattle.range_survey.specs.declared.fate.Fate.{Fate}
use Rattle.range_survey.specs.declared.fate.Fate.TheVariants as fate
use Rattle.store_chain.specs.Chains.{Chained}
use Rattle.store_chain.specs.declared.refused.Refused.{Refused}
use Rattle.store_chain.specs.declared.refused.Refused.TheVariants as refused

any_decides : {X : Type 0} (p : X → Bool) (P : X → Type 0) → ((x : X) → Decides (p x) (P x)) → (xs : List X) → Decides (list_any p xs) (Any P xs)
any_decides p P each xs = (
  λ e. let a = Any-from_list_any p xs e in (a.0, a.1, a.2, a.3, (each a.1).0 a.4),
  λ a. list_any-from_Any p xs (a.0, a.1, a.2, a.3, (each a.1).1 a.4),
)

-- ---- entries

pub some_right : (is_right : ℕ → Bool) (es : List ℕ) (i : ℕ) → IsAmong es i → is_right i ≡ true → list_any is_right es ≡ true
some_right is_right es i among is = list_any_at is_right es among.0 0 among.1 (ap is_right among.2 ∙ is)

right_some : (is_right : ℕ → Bool) (es : List ℕ) → list_any is_right es ≡ true → (i : ℕ) × IsAmong es i × (is_right i ≡ true)
right_some is_right es is =
    let a = Any-from_list_any is_right es is in
    (a.1, (a.0, a.2, get_or_default es a.0 0 a.1 a.2 ∙ a.3), a.4)

pub none_right : (is_right : ℕ → Bool) (es : List ℕ) → ((i : ℕ) → IsAmong es i → is_right i ≡ true → ⊥) → list_any is_right es ≡ false
none_right is_right es never = false_from_ne_true (list_any is_right es) (λ e. let i = right_some is_right es e in never i.0 i.1 i.2)

-- tests that agree on the entries agree on the list
pub right_same : (f g : ℕ → Bool) (es : List ℕ) → ((i : ℕ) → IsAmong es i → f i ≡ g i) → list_any f es ≡ list_any g es
right_same f g es same = elim (cases_Bool (list_any f es)) [
  | inl is ↦
      let i = right_some f es is in
      is ∙ sym (some_right g es i.0 i.1 (sym (same i.0 i.1) ∙ i.2))
  | inr isnt ↦
      isnt ∙ sym (none_right g es (λ i among is. false≢true (sym isnt ∙ some_right f es i among (same i among ∙ is))))
]

-- ---- seeds

told_decides : (o : Option (List ℕ)) (p : SeedPlace) (id : List ℕ) → Decides (told_at o p id) (IsSomeAnd o (λ t. digest_of p.kind (bytes_at p t) ≡ id))
told_decides None p id = (λ e. absurd (false≢true e), λ never. absurd never)
told_decides (Some t) p id = bytes_eq-Decides (digest_of p.kind (bytes_at p t)) id

given_decides : (o : Option Held) (p : SeedPlace) (id : List ℕ) → Decides (given_at o p id) (GivesAt o p id)
given_decides None p id = (λ e. absurd (false≢true e), λ never. absurd never)
given_decides (Some h) p id = Decides-and (nat_le (place_end p) h.size) (told_at h.bytes p id)
    (leb-true (place_end p) h.size, le-leb (place_end p) h.size) (told_decides h.bytes p id)

pub seeds_decide : (views : List (Option Held)) (places : List SeedPlace) (id : List ℕ) → Decides (seeds_give views places id) (SeedsGive views places id)
seeds_decide views places id =
    any_decides (λ p. given_at (slice_index_or views p.seed None) p id) (λ p. HeldAt views p id)
    (λ p. given_decides (slice_index_or views p.seed None) p id) places

-- ---- stores

chunk_decides : (kind : DigestKind) (id : List ℕ) (size : ℕ) (o : Option (List ℕ)) → Decides (is_chunk kind id size o) (GivesChunk kind id size o)
chunk_decides kind id size None = (λ e. absurd (false≢true e), λ gives. absurd (none-some gives.0 gives.1))
chunk_decides kind id size (Some b) =
    let both = Decides-and (bytes_eq (digest_of kind b) id) (length b == size) (bytes_eq-Decides (digest_of kind b) id) (Decides-eqb (length b) size) in (
      λ e. let is = both.0 e in (b, refl, record { named = is.0; sized = is.1 }),
      λ gives.
          let is = subst (IsChunk kind id size) (sym (same_Some b gives.0 gives.1)) gives.2 in
          both.1 (is.named, is.sized),
    )

pub stores_decide : (kind : DigestKind) (id : List ℕ) (size : ℕ) (maps : List (Map (List ℕ))) → Decides (stores_give kind id size maps) (SomeGives kind id size maps)
stores_decide kind id size maps =
    any_decides (λ (m : Map (List ℕ)). is_chunk kind id size (m id)) (λ (m : Map (List ℕ)). GivesChunk kind id size (m id))
    (λ m. chunk_decides kind id size (m id)) maps

-- ---- behind the target and the seeds

-- no call more
pub same_raised : (n : ℕ) → n < 2 ^ 64 → n ≡ raised n 0
same_raised n below = omega (arith, below)

module _ {S : Type 0} (kind : DigestKind) (id : List ℕ) (size : ℕ) (cached maps : List (Map (List ℕ))) (old new : Chained S) where
  abbrev upstream : Fate
  upstream = source_behind kind id size cached maps

  pub by_want : ObtainedBy upstream old new (Err refused.Memory)
  by_want = (λ isnt. absurd (isnt refl), inl refl)

  module _ (cacheless : SomeGives kind id size cached → ⊥) (calls : new.asks ≡ raised old.asks 1) where
    not_cached : stores_give kind id size cached ≡ false
    not_cached = false_from_ne_true (stores_give kind id size cached) (λ e. cacheless ((stores_decide kind id size cached).0 e))

    pub by_store : SomeGives kind id size maps → ObtainedBy upstream old new (Ok fate.Fetched)
    by_store gives = rw (not_cached, (stores_decide kind id size maps).1 gives) (λ isnt. calls, refl)

    pub by_none : (r : Refused) → (SomeGives kind id size maps → r ≡ refused.Memory) → ObtainedBy upstream old new (Err r)
    by_none r unless = elim (cases_Bool (stores_give kind id size maps)) [
      | inl give ↦ rw (not_cached, give) (λ isnt. calls, inl (unless ((stores_decide kind id size maps).0 give)))
      | inr never ↦ rw (not_cached, never) (λ isnt. calls, inr refl)
    ]

-- what is answered exactly is so with cache and stores as one
pub answered_upstream : (source : Fate) (r : Result Fate Refused) → AnsweredBy source r → AnsweredAs as_upstream source r
answered_upstream source (Ok f) is = ap as_upstream is
answered_upstream source (Err r) is = is

-- what either of them gives
pub by_either : (kind : DigestKind) (id : List ℕ) (size : ℕ) (cached maps : List (Map (List ℕ))) (f : Fate) → as_upstream f ≡ fate.Fetched → SomeGives kind id size cached ⊎ SomeGives kind id size maps
    → AnsweredAs as_upstream (source_behind kind id size cached maps) (Ok f)
by_either kind id size cached maps f is some = elim (cases_Bool (stores_give kind id size cached)) [
  | inl give ↦ rw give is
  | inr never ↦ elim some [
    | inl gives ↦ absurd (false≢true (sym never ∙ (stores_decide kind id size cached).1 gives))
    | inr gives ↦ rw (never, (stores_decide kind id size maps).1 gives) is
  ]
]

module _ (is_right : ℕ → Bool) (q : Wanted) (views : List (Option Held)) (cached maps : List (Map (List ℕ))) where
  abbrev source : Fate
  source = source_among is_right q views cached maps

  pub kept_source : (i : ℕ) → IsAmong q.entries i → is_right i ≡ true → source ≡ fate.Kept
  kept_source i among is = rw (some_right is_right q.entries i among is) refl

  pub rest_source : ((i : ℕ) → IsAmong q.entries i → is_right i ≡ true → ⊥) → (SeedsGive views q.places q.id → ⊥) → source ≡ source_behind q.kind q.id q.size cached maps
  rest_source none seedless =
      let rest = source_behind q.kind q.id q.size cached maps in
      let seeded = seeds_give views q.places q.id in
      ap (λ (b : Bool). if b then fate.Kept else if seeded then fate.Seeded else rest) (none_right is_right q.entries none)
      ∙ ap (λ (b : Bool). if b then fate.Seeded else rest) (false_from_ne_true seeded (λ e. seedless ((seeds_decide views q.places q.id).0 e)))

  module _ {S : Type 0} (old new : Chained S) where
    pub by_copy : old.asks < 2 ^ 64 → new ≡ old → (i : ℕ) → IsAmong q.entries i → is_right i ≡ true → ObtainedBy source old new (Ok fate.Copied)
    by_copy below same i among is =
        rw (kept_source i among is, same) (λ isnt. same_raised old.asks below, refl)

    module _ (none : (i : ℕ) → IsAmong q.entries i → is_right i ≡ true → ⊥) where
      not_kept : list_any is_right q.entries ≡ false
      not_kept = none_right is_right q.entries none

      pub by_seed : old.asks < 2 ^ 64 → new ≡ old → SeedsGive views q.places q.id → ObtainedBy source old new (Ok fate.Seeded)
      by_seed below same gives =
          rw (not_kept, (seeds_decide views q.places q.id).1 gives, same) (λ isnt. same_raised old.asks below, refl)

      -- where no seed gives it the cache and the stores are what is left
      pub by_rest : (SeedsGive views q.places q.id → ⊥) → (r : Result Fate Refused) → ObtainedBy (source_behind q.kind q.id q.size cached maps) old new r → ObtainedBy source old new r
      by_rest seedless r got = subst (λ (s : Fate). ObtainedBy s old new r) (sym (rest_source none seedless)) got
