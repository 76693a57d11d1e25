-- How what a worker knows goes over its calls.
use Rattle.std.proofs.Common.{◌≡◌, ℕ, ◌-◌, ◌^◌, ◌<◌, List, set, Bool, true, false, ◌&&◌, refl, sym, ap, ◌∙◌, inl, inr, arith}
use Rattle.std.proofs.lemmas.Bool.{cases_eq, cases_lt, true≢false}
use Rattle.std.proofs.lemmas.List.{get_or-set_other, get_or-set_same, length-set}
use Rattle.caibx_codec.specs.Listing.{count_of}
use Rattle.dsy_base.specs.Counts.{Rose, raised}
use Rattle.locked_shards.specs.Known.{KnowsEntries}
use Rattle.range_ledger.specs.Runs.{Run}
use Rattle.range_survey.specs.Fates.{fate_at, is_made}
use Rattle.range_survey.specs.declared.fate.Fate.{Fate}
use Rattle.range_survey.specs.declared.fate.Fate.TheVariants as fate

pub both_true : (a b : Bool) → (a && b) ≡ true → (a ≡ true) × (b ≡ true)
both_true true true is = (refl, refl)
both_true true false is = absurd (true≢false (sym is))
both_true false b is = absurd (true≢false (sym is))

pub rose_by_one : (old new : ℕ) → new ≡ raised old 1 → Rose old new
rose_by_one old new is = elim (cases_lt old (2 ^ 64 - 1)) [
  | inl below ↦ inl (omega (arith, is, below))
  | inr full ↦ inr (omega (arith, is, full))
]

made_not_kept : (f : Fate) → is_made f ≡ true → f ≡ fate.Kept → ⊥
made_not_kept f made is = true≢false (sym made ∙ ap is_made is)

-- the worker made an entry right
pub known_set : (r : Run) (locks : ℕ) (m : List Fate) (e : ℕ) (f : Fate) → e < count_of r.listing → is_made f ≡ true → KnowsEntries r locks m → KnowsEntries r locks (set m e f)
known_set r locks m e f lt made k = record {
  size = length-set m e f ∙ k.size;
  all = k.all;
  few = k.few;
  some = k.some;
  kept = λ tells j inside is. elim (cases_eq j e) [
    | inl same ↦ absurd (made_not_kept f made (sym (ap (fate_at (set m e f)) same ∙ get_or-set_same m e f fate.Open (omega (arith, lt, k.size))) ∙ is))
    | inr differ ↦ k.kept tells j inside (sym (get_or-set_other m e j f fate.Open differ) ∙ is)
  ];
}
