-- An image's index breaks no rule.
use Rattle.std.proofs.Common.{◌≡◌, ℕ, ◌+◌, ◌-◌, List, [], ◌∷◌, length, false, nat_lt, nat_le, Some, None, refl, sym, ap, ◌∙◌, arith}
use Rattle.std.proofs.lemmas.Bool.Decides.{nat_tests}
use Rattle.buzhash_cut.specs.Image.{flags_of, named_from}
use Rattle.buzhash_cut.specs.Entries.{IsStep, AreLinked, AreAll}
use Rattle.chunk_ends.specs.Sizes.{Sizes, AreSizes}
use Rattle.caibx_codec.specs.Judge.{entry_fault, index_fault}
use Rattle.caibx_fields.specs.declared.fault.IndexFault.{IndexFault}
use Rattle.chunk_store.specs.declared.id.DigestKind.{DigestKind}
use Rattle.dsy_base.specs.Bytes.{Held}

entries_fine : (greatest k start end : ℕ) (es : List (ℕ × List ℕ)) → AreLinked (IsStep greatest) start es end → entry_fault greatest k start es ≡ None
entries_fine greatest k start end [] steps = refl
entries_fine greatest k start end (e ∷ es) steps =
    let here : IsStep greatest start e = steps.0 in
    let above : nat_le e.0 start ≡ false = grind (arith, nat_tests) in
    let small : nat_lt greatest (e.0 - start) ≡ false = grind (arith, nat_tests) in
    rw (above, small) (entries_fine greatest (k + 1) e.0 end es steps.1)

-- each end is listed once
pub length-named_from : (kind : DigestKind) (image : List ℕ) (start : ℕ) (ends : List ℕ) → length (named_from kind image start ends) ≡ length ends
length-named_from kind image start [] = refl
length-named_from kind image start (end ∷ ends) = let e = length-named_from kind image end ends in omega (arith, e)

-- entries of all chunks break no rule of an index
index_fine : (kind : DigestKind) (s : Sizes) (h : Held) (es : List (ℕ × List ℕ)) → AreSizes s → AreAll kind s h es
    → index_fault (record { flags = flags_of kind; least = s.least; average = s.average; greatest = s.greatest; entries = es }) ≡ None
index_fine kind s h es sizes all =
    let none = entries_fine s.greatest 0 0 h.size es all.entries.steps in
    let small : nat_lt 67108864 s.greatest ≡ false = grind (arith, nat_tests, sizes.greatest) in
    let fits : nat_lt 4194304 (length es) ≡ false = grind (arith, nat_tests, all.few) in
    rw (small, fits) none

-- so it isn't refused
pub index_taken : (kind : DigestKind) (s : Sizes) (h : Held) (es : List (ℕ × List ℕ)) (least average greatest : ℕ) (f : IndexFault) → AreSizes s → AreAll kind s h es
    → least ≡ s.least → average ≡ s.average → greatest ≡ s.greatest
    → index_fault (record { flags = flags_of kind; least = least; average = average; greatest = greatest; entries = es }) ≡ Some f → ⊥
index_taken kind s h es least average greatest f sizes all a b c fault =
    let fine = index_fine kind s h es sizes all in
    let listed = λ (l m g : ℕ). index_fault (record { flags = flags_of kind; least = l; average = m; greatest = g; entries = es }) in
    let same : listed least average greatest ≡ listed s.least s.average s.greatest =
    ap (λ x. listed x average greatest) a ∙ (ap (λ x. listed s.least x greatest) b ∙ ap (listed s.least s.average) c) in
    let both : None ≡ Some f = sym fine ∙ (sym same ∙ fault) in
    cc
