-- What the second pass has cost: the wants that it has tried are done, and the others were settled.
use Rattle.std.proofs.Common.{◌≡◌, ◌≢◌, ◌⊎◌, ℕ, ◌<◌, ◌≤◌, List, length, set, Bool, Result, Ok, Err, true, false, sym, ap, ◌∙◌, inl, inr, arith}
use Rattle.std.proofs.lemmas.Bool.{cases_Bool, cases_lt, true≢false}
use Rattle.std.proofs.lemmas.List.{get_or-set_same, get_or-set_other, get_or_past}
use Rattle.assembler.proofs.Entries.{among}
use Rattle.assembler.proofs.Tried.{is_tried}
use Rattle.assembler.specs.Economy.{HadMemory, UnlessMemory}
use Rattle.assembler.specs.Passes.{want_at}
use Rattle.assembler.specs.declared.fault.ExtractFault.{ExtractFault}
use Rattle.assembler.specs.declared.fault.ExtractFault.TheVariants as faults
use Rattle.assembler.specs.declared.fault.Lost.{Lost}
use Rattle.assembler.specs.declared.fault.Unsettled.{Unsettled}
use Rattle.assembler.specs.declared.fault.Unsettled.TheVariants as unsettled
use Rattle.caibx_codec.specs.Listing.{Listing, count_of}
use Rattle.chunk_sources.specs.Wants.{IsAmong}
use Rattle.extract_plan.specs.Deal.{of_want, AreWants, Deal}
use Rattle.range_survey.specs.Fates.{settled}
use Rattle.range_survey.specs.declared.fate.Fate.{Fate}
use Rattle.store_chain.specs.declared.refused.Refused.TheVariants as refused

-- ---- how it ended

pub unless_any : {A : Type 0} (P : Type 0) (r : Result A ExtractFault) → P → UnlessMemory P r
unless_any P (Ok u) p = p
unless_any P (Err (faults.Missing k id)) p = p
unless_any P (Err (faults.Damaged k id s shows)) p = p
unless_any P (Err (faults.StoreFault s)) p = p
unless_any P (Err faults.TargetFault) p = p
unless_any P (Err faults.Memory) p = tt

pub unless_map : {A : Type 0} (P Q : Type 0) (r : Result A ExtractFault) → (P → Q) → UnlessMemory P r → UnlessMemory Q r
unless_map P Q (Ok u) f p = f p
unless_map P Q (Err (faults.Missing k id)) f p = f p
unless_map P Q (Err (faults.Damaged k id s shows)) f p = f p
unless_map P Q (Err (faults.StoreFault s)) f p = f p
unless_map P Q (Err faults.TargetFault) f p = f p
unless_map P Q (Err faults.Memory) f p = tt

-- ---- what one call answered

pub memory_ok : (r : Result Unit Unsettled) (u : Unit) → r ≡ Ok u → HadMemory r
memory_ok r u is lost other = let bad : Ok u ≡ Err (unsettled.Lost lost) = sym is ∙ other in absurd (cc)

lost_same : (r : Result Unit Unsettled) (x lost : Lost) → r ≡ Err (unsettled.Lost x) → r ≡ Err (unsettled.Lost lost) → x ≡ lost
lost_same r x lost is other = let both = sym is ∙ other in cc

pub memory_lost : (r : Result Unit Unsettled) (e : Unsettled) (x : Lost) → r ≡ Err e → e ≡ unsettled.Lost x → x.refused ≢ refused.Memory → HadMemory r
memory_lost r e x is why had lost other lacked =
    had (ap (λ (y : Lost). y.refused) (lost_same r x lost (is ∙ ap (λ y. Err y) why) other) ∙ lacked)

-- ---- wants that were tried

pub tried_now : (tried : List Bool) (w n : ℕ) → length tried ≡ n → w < n → is_tried (set tried w true) w ≡ true
tried_now tried w n size below = get_or-set_same tried w true false (omega (arith, below, size))

pub tried_as : (tried : List Bool) (w v : ℕ) → v ≢ w → is_tried (set tried w true) v ≡ is_tried tried v
tried_as tried w v apart = get_or-set_other tried w v true false apart

pub tried_within : (tried : List Bool) (w n : ℕ) → length tried ≡ n → is_tried tried w ≡ true → w < n
tried_within tried w n size is = elim (cases_lt w n) [
  | inl inside ↦ inside
  | inr past ↦ absurd (true≢false (sym is ∙ get_or_past tried w false (omega (arith, past, size))))
]

-- after all entries a want that wasn't tried was settled at first
pub tried_all : (l : Listing) (d : Deal) (m n : List Fate) (tried : List Bool) (i w : ℕ) → AreWants l d.wants d.want_of → count_of l ≤ i
    → ((j : ℕ) → j < i → settled n j ≡ false → is_tried tried (want_at d j) ≡ true)
    → ((j : ℕ) → is_tried tried (want_at d j) ≡ false → settled n j ≡ settled m j)
    → w < d.wants → (is_tried tried w ≡ true) ⊎ ((j : ℕ) × IsAmong (of_want d w) j × (settled m j ≡ true))
tried_all l d m n tried i w wants le cover untouched below = elim (cases_Bool (is_tried tried w)) [
  | inl is ↦ inl is
  | inr isnt ↦
      let size : length d.want_of ≡ count_of l = wants.size in
      let one = wants.every w below in
      let here : is_tried tried (want_at d one.0) ≡ false = ap (is_tried tried) one.2 ∙ isnt in
      elim (cases_Bool (settled n one.0)) [
        | inl was ↦ inr (one.0, among d w one.0 (omega (arith, one.1, size)) one.2, sym (untouched one.0 here) ∙ was)
        | inr wasnt ↦ absurd (true≢false (sym (cover one.0 (omega (arith, one.1, le)) wasnt) ∙ here))
      ]
]
