-- Answers that name a store by another number. N says which refusals are told as which.
use Rattle.std.proofs.Common.{◌≡◌, ◌∙◌, ◌+◌, ◌<◌, ℕ, List, [], length, slice_index, slice_index_or, Result, Ok, Err, refl, sym, ap, subst, arith}
use Rattle.cache_command.specs.Caching.{outcome_of_fill}
use Rattle.cache_fill.specs.Filling.{FillsBy, filled_to}
use Rattle.cache_fill.specs.declared.fill.FillFault.{FillFault}
use Rattle.cache_fill.specs.declared.fill.FillFault.TheVariants as faults
use Rattle.caibx_codec.specs.Listing.{Listing}
use Rattle.chunk_store.specs.declared.store.Giver.{Giver}
use Rattle.command_groups.proofs.Lacked.{have_lacked_in}
use Rattle.command_groups.specs.Groups.{first_store}
use Rattle.command_groups.specs.Lacking.{GroupsLack, HaveLackedIn, LacksIn}
use Rattle.command_groups.specs.Numbers.{answer_of_stores, outcome_of_stores, refused_of_stores, store_numbered}
use Rattle.command_indexes.specs.Spelled.{NotSpelled, NotSpelledAt}
use Rattle.command_outcome.specs.declared.outcome.Outcome.{Outcome}
use Rattle.command_outcome.specs.declared.outcome.Outcome.TheVariants as ends
use Rattle.command_steps.specs.Sources.{Storage}
use Rattle.command_words.specs.Locations.{index_place_of}
use Rattle.command_words.specs.declared.command.Location.{Location}
use Rattle.command_words.specs.declared.location.IndexPlace.{IndexPlace}
use Rattle.command_words.specs.declared.location.IndexPlace.TheVariants as places
use Rattle.command_words.specs.declared.location.NoLocation.{NoLocation}
use Rattle.dsy_base.specs.Maps.{Map}
use Rattle.store_chain.specs.declared.query.Query.{Query}
use Rattle.store_chain.specs.declared.refused.Refused.{Refused}
use Rattle.store_chain.specs.declared.refused.Refused.TheVariants as refused

-- ---- numbers of stores by those of groups

module _ (N : Refused → Refused → Type 0) where
  -- the fault is told so
  abbrev pub IsFaultAs : FillFault → FillFault → Type 0
  IsFaultAs (faults.Missing k id) g = g ≡ faults.Missing k id
  IsFaultAs (faults.Damaged k id s x) g = (t : Giver) × N (refused.Damaged s x) (refused.Damaged t x) × (g ≡ faults.Damaged k id t x)
  IsFaultAs (faults.StoreFault s) g = (t : ℕ) × N (refused.StoreFault s) (refused.StoreFault t) × (g ≡ faults.StoreFault t)
  IsFaultAs faults.CacheFault g = g ≡ faults.CacheFault
  IsFaultAs faults.Memory g = g ≡ faults.Memory

  -- so is the outcome
  abbrev pub IsOutcomeAs : Outcome → Outcome → Type 0
  IsOutcomeAs (ends.Damaged k id s x) p = (t : Giver) × N (refused.Damaged s x) (refused.Damaged t x) × (p ≡ ends.Damaged k id t x)
  IsOutcomeAs (ends.StoreFault s) p = (t : ℕ) × N (refused.StoreFault s) (refused.StoreFault t) × (p ≡ ends.StoreFault t)
  IsOutcomeAs other p = p ≡ other

  -- and the answer
  abbrev pub IsAnswerAs : Result Unit Outcome → Result Unit Outcome → Type 0
  IsAnswerAs (Ok u) s = s ≡ Ok u
  IsAnswerAs (Err o) s = (p : Outcome) × (s ≡ Err p) × IsOutcomeAs o p

  pub memory_as : (f g : FillFault) → f ≡ faults.Memory → IsFaultAs f g → g ≡ faults.Memory
  memory_as f g is named = subst (λ (h : FillFault). IsFaultAs h g) is named

  pub filled_as : (l : Listing) (f g : FillFault) → IsFaultAs f g → filled_to l (Err f) ≡ filled_to l (Err g)
  filled_as l (faults.Missing k id) g named = ap (λ (h : FillFault). filled_to l (Err h)) (sym named)
  filled_as l (faults.Damaged k id s x) g (t, n, named) = ap (λ (h : FillFault). filled_to l (Err h)) (sym named)
  filled_as l (faults.StoreFault s) g (t, n, named) = ap (λ (h : FillFault). filled_to l (Err h)) (sym named)
  filled_as l faults.CacheFault g named = ap (λ (h : FillFault). filled_to l (Err h)) (sym named)
  filled_as l faults.Memory g named = ap (λ (h : FillFault). filled_to l (Err h)) (sym named)

  pub fills_as : (l : Listing) (m : Map (List ℕ)) (maps : List (Map (List ℕ))) (f g : FillFault) → IsFaultAs f g → FillsBy l m maps (Err f) → FillsBy l m maps (Err g)
  fills_as l m maps (faults.Missing k id) g named h = subst (λ (e : FillFault). FillsBy l m maps (Err e)) (sym named) h
  fills_as l m maps (faults.Damaged k id s x) g (t, n, named) h = subst (λ (e : FillFault). FillsBy l m maps (Err e)) (sym named) h
  fills_as l m maps (faults.StoreFault s) g (t, n, named) h = absurd h
  fills_as l m maps faults.CacheFault g named h = absurd h
  fills_as l m maps faults.Memory g named h = subst (λ (e : FillFault). FillsBy l m maps (Err e)) (sym named) tt

  -- the fault whose outcome it is
  pub fault_as : (f : FillFault) (o p : Outcome) → o ≡ outcome_of_fill f → IsOutcomeAs o p → (g : FillFault) × (p ≡ outcome_of_fill g) × IsFaultAs f g
  fault_as (faults.Missing k id) o p is named = (faults.Missing k id, subst (λ (e : Outcome). IsOutcomeAs e p) is named, refl)
  fault_as (faults.Damaged k id s x) o p is named =
      let h = subst (λ (e : Outcome). IsOutcomeAs e p) is named in
      (faults.Damaged k id h.0 x, h.2, (h.0, h.1, refl))
  fault_as (faults.StoreFault s) o p is named =
      let h = subst (λ (e : Outcome). IsOutcomeAs e p) is named in
      (faults.StoreFault h.0, h.2, (h.0, h.1, refl))
  fault_as faults.CacheFault o p is named = (faults.CacheFault, subst (λ (e : Outcome). IsOutcomeAs e p) is named, refl)
  fault_as faults.Memory o p is named = (faults.Memory, subst (λ (e : Outcome). IsOutcomeAs e p) is named, refl)

  -- why an index wasn't obtained names no store
  spelled_at : (w v : Storage) (q : List ℕ) (at : Result IndexPlace NoLocation) (o p : Outcome) → IsOutcomeAs o p → NotSpelledAt q at w v o → o ≡ p
  spelled_at w v q (Ok (places.File name)) (ends.Damaged k id s x) p named h = absurd h
  spelled_at w v q (Ok (places.File name)) (ends.StoreFault s) p named h = absurd h
  spelled_at w v q (Ok (places.File name)) other p named h = sym named
  spelled_at w v q (Ok (places.Http host port path)) (ends.Damaged k id s x) p named h = absurd h
  spelled_at w v q (Ok (places.Http host port path)) (ends.StoreFault s) p named h = absurd h
  spelled_at w v q (Ok (places.Http host port path)) other p named h = sym named
  spelled_at w v q (Err why) (ends.Damaged k id s x) p named h = absurd (cc)
  spelled_at w v q (Err why) (ends.StoreFault s) p named h = absurd (cc)
  spelled_at w v q (Err why) other p named h = sym named

  pub spelled_as : (w v : Storage) (q : List ℕ) (o p : Outcome) → IsOutcomeAs o p → NotSpelled w v q o → o ≡ p
  spelled_as w v q o p named h = spelled_at w v q (index_place_of q) o p named h

-- ---- by the same number

abbrev pub IsSame : Refused → Refused → Type 0
IsSame r n = n ≡ r

same_outcome : (o : Outcome) → IsOutcomeAs IsSame o o
same_outcome (ends.Damaged k id s x) = (s, refl, refl)
same_outcome (ends.StoreFault s) = (s, refl, refl)
same_outcome other = refl

pub same_answer : (r : Result Unit Outcome) → IsAnswerAs IsSame r r
same_answer (Ok u) = refl
same_answer (Err o) = (o, refl, same_outcome o)

-- ---- by the numbers of the groups' stores

module _ (groups : List (List Location)) where
  abbrev pub IsTold : Refused → Refused → Type 0
  IsTold r n = n ≡ refused_of_stores groups r

  told_outcome : (o : Outcome) → IsOutcomeAs IsTold o (outcome_of_stores groups o)
  told_outcome (ends.Damaged k id s x) = (store_numbered groups s, refl, refl)
  told_outcome (ends.StoreFault s) = (first_store groups s, refl, refl)
  told_outcome other = refl

  pub told_answer : (r : Result Unit Outcome) → IsAnswerAs IsTold r (answer_of_stores groups r)
  told_answer (Ok u) = refl
  told_answer (Err o) = (outcome_of_stores groups o, refl, told_outcome o)

  pub told_lack : (again : ℕ) (w v : Storage) (c : Query) (r n : Refused) → IsTold r n → GroupsLack again c w v groups r → HaveLackedIn again c w v groups n
  told_lack again w v c r n is h = subst (HaveLackedIn again c w v groups) (sym is) (have_lacked_in again c w v groups r h)
