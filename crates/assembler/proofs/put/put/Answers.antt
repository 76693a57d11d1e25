use Rattle.std.proofs.Common.{◌≡◌, ◌≢◌, ◌⊎◌, ℕ, ◌+◌, ◌<◌, List, length, Result, Ok, Err, OnOk, OnErr, slice_index, true, false, refl, sym, ap, subst, ◌∙◌, inl, inr, arith}
use Rattle.std.proofs.lemmas.Bool.{cases_Bool, cases_eq, cases_lt, true≢false}
use Rattle.dsy_base.proofs.Counts.{rose_later}
use Rattle.dsy_base.specs.declared.fault.Failed.{Failed}
use Rattle.range_survey.specs.Fates.{fate_at, is_settled, settled}
use Rattle.range_survey.specs.declared.fate.Fate.{Fate}
use Rattle.range_survey.specs.declared.fate.Fate.TheVariants as fate
use Rattle.range_ledger.specs.Fills.{Grows}
use Rattle.assembler.proofs.Filled.{grows_on, rose_still, settled_on, told_on, torn_on, torn_still}
use Rattle.assembler.proofs.Tallies.{put_passed, put_some, put_written}
use Rattle.caibx_codec.specs.Listing.{count_of}
use Rattle.assembler.proofs.put.put.Goals as goal
use Rattle.assembler.proofs.put.put.Goals.{in-Ok-true, in-Ok-false, in-Err}

on_ok : {P Q : Type 0} (r : Result Unit Failed) → (P → Q) → OnOk r P → OnOk r Q
on_ok (Ok x) f p = f p
on_ok (Err e) f p = tt

on_err : {P Q : Type 0} (r : Result Unit Failed) → (P → Q) → OnErr r P → OnErr r Q
on_err (Ok x) f p = tt
on_err (Err e) f p = f p

-- the fates m1 became m2 as one more of the entries es was written
module _ (m0 m1 m2 : List Fate) (grows : Grows m1 m2) (es : List ℕ) (n : ℕ) (others : (j : ℕ) → j ≢ slice_index es n → fate_at m2 j ≡ fate_at m1 j) where
  -- an entry that became settled was this one
  this_one : (j : ℕ) → settled m1 j ≡ false → settled m2 j ≡ true → slice_index es n ≡ j
  this_one j isnt is = elim (cases_eq j (slice_index es n)) [
    | inl same ↦ sym same
    | inr apart ↦ absurd (true≢false (sym is ∙ ap is_settled (others j apart) ∙ isnt))
  ]

  all_on : settled m2 (slice_index es n) ≡ true → ((k : ℕ) → k < n → settled m1 (slice_index es k) ≡ true)
      → (k : ℕ) → k < n + 1 → settled m2 (slice_index es k) ≡ true
  all_on here before = λ k less. elim (cases_lt k n) [
    | inl below ↦ settled_on m1 m2 grows (slice_index es k) (before k below)
    | inr at_least ↦ let same : n ≡ k = omega arith in subst (λ j. settled m2 (slice_index es j) ≡ true) same here
  ]

  among_on : ((j : ℕ) → settled m0 j ≡ false → settled m1 j ≡ true → (k : ℕ) × (k < n) × (slice_index es k ≡ j))
      → (j : ℕ) → settled m0 j ≡ false → settled m2 j ≡ true → (k : ℕ) × (k < n + 1) × (slice_index es k ≡ j)
  among_on before = λ j isnt is. elim (cases_Bool (settled m1 j)) [
    | inl was ↦ let b = before j isnt was in (b.0, omega (arith, b.1), b.2)
    | inr first ↦ (n, omega arith, this_one j first is)
  ]

  module _ (origin x : Fate) where
    abbrev IsFrom : Fate → Type 0
    IsFrom y = (y ≡ origin) ⊎ (y ≡ fate.Copied)

    origin_on : IsFrom x → (settled m1 (slice_index es n) ≡ false → settled m2 (slice_index es n) ≡ true → fate_at m2 (slice_index es n) ≡ x)
        → ((j : ℕ) → settled m0 j ≡ false → settled m1 j ≡ true → IsFrom (fate_at m1 j))
        → (j : ℕ) → settled m0 j ≡ false → settled m2 j ≡ true → IsFrom (fate_at m2 j)
    origin_on of here before = λ j isnt is. elim (cases_Bool (settled m1 j)) [
      | inl was ↦ subst IsFrom (sym (grows.kept j was)) (before j isnt was)
      | inr first ↦
          let same = this_one j first is in
          subst (λ i. settled m1 i ≡ false → settled m2 i ≡ true → IsFrom (fate_at m2 i)) same (λ a b. subst IsFrom (sym (here a b)) of) first is
    ]

pub loop-entry-preserved : goal.loop-entry-preserved
loop-entry-preserved g c =
    let e = g.E.Ledger in
    let l = e.run.listing in
    let es = c.args.entries.now in
    let n = c.loop-entry.entry-index in
    let held = e.held in
    let t0 = c.args.ledger.now in
    let t1 = c.loop-entry.ledger in
    let t2 = c.put.new.self in
    let a = e.faults t0 in
    let b = e.faults t1 in
    let d = e.faults t2 in
    let m0 = e.fates t0 in
    let m1 = e.fates t1 in
    let m2 = e.fates t2 in
    let inv = c.loop-entry.invariant in
    let ens = c.put.ensures in
    let listed : slice_index es n < count_of l = c.requires.entries n c.loop-entry-test.true in
    let inside : slice_index es n < length m1 = omega (arith, listed, c.rules.ensures.counted, inv.grows.size) in
    let xy = sym inv.tells in
    let yz = sym ens.tells in
    record {
      next = elim c.match-put.branch [
        | in-Ok-true w ↦ inr w.fate-is
        | in-Ok-false w ↦ rw w.fate-is inv.next
        | in-Err w ↦ rw w.fate-is inv.next
      ];
      ok = elim c.match-put.branch [
        | in-Ok-true w ↦ rw w.ended-is (on_ok c.loop-entry.ended (all_on m0 m1 m2 ens.grows es n ens.others w.in-Ok-true.ensures.ok) inv.ok)
        | in-Ok-false w ↦ rw w.ended-is (on_ok c.loop-entry.ended (all_on m0 m1 m2 ens.grows es n ens.others w.in-Ok-false.ensures.ok) inv.ok)
        | in-Err w ↦ rw w.ended-is tt
      ];
      origin = origin_on m0 m1 m2 ens.grows es n ens.others c.args.origin c.loop-entry.fate inv.next ens.origin inv.origin;
      only = among_on m0 m1 m2 ens.grows es n ens.others inv.only;
      tallied = elim c.match-put.branch [
        | in-Ok-true w ↦ rw (w.ended-is, w.fate-is) (on_ok c.loop-entry.ended (put_written c.args.origin c.loop-entry.fate es n (count_of l) m0 m1 m2 inside listed (ens.changed (w.in-Ok-true.is ∙ ap Ok w.in-Ok-true.field-0-test)).0 (ens.changed (w.in-Ok-true.is ∙ ap Ok w.in-Ok-true.field-0-test)).1) inv.tallied)
        | in-Ok-false w ↦ rw (w.ended-is, w.fate-is) (on_ok c.loop-entry.ended (put_passed c.args.origin c.loop-entry.fate es n (count_of l) m0 m1 m2 (ens.kept (w.in-Ok-false.is ∙ ap Ok w.in-Ok-false.field-0-test)).0 (ens.kept (w.in-Ok-false.is ∙ ap Ok w.in-Ok-false.field-0-test)).1) inv.tallied)
        | in-Err w ↦ rw w.ended-is tt
      ];
      grows = grows_on m0 m1 m2 inv.grows ens.grows;
      bytes = told_on l m0 m1 m2 a b d (held t0).bytes (held t1).bytes (held t2).bytes xy yz ens.faults inv.grows ens.grows inv.bytes ens.bytes;
      tells = ens.tells ∙ inv.tells;
      name = ens.name ∙ inv.name;
      size = ens.size ∙ inv.size;
      never_falls = omega (arith, inv.never_falls, ens.faults);
      failed =
          elim c.match-put.branch [
            | in-Ok-true w ↦ rw w.ended-is (on_err c.loop-entry.ended (λ f. (f.0, f.1, torn_still l m0 m1 m2 a b d f.0 ens.faults inv.grows ens.grows (held t0).bytes (held t1).bytes (held t2).bytes xy yz f.2 ens.bytes)) inv.failed)
            | in-Ok-false w ↦ rw w.ended-is (on_err c.loop-entry.ended (λ f. (f.0, f.1, torn_still l m0 m1 m2 a b d f.0 ens.faults inv.grows ens.grows (held t0).bytes (held t1).bytes (held t2).bytes xy yz f.2 ens.bytes)) inv.failed)
            | in-Err w ↦ rw w.ended-is (
              slice_index es n,
              (n, c.loop-entry-test.true, refl),
              torn_on l m0 m1 m2 a b d (slice_index es n) ens.faults inv.grows ens.grows (held t0).bytes (held t1).bytes (held t2).bytes xy yz inv.bytes w.in-Err.ensures.failed,
            )
          ];
      cause = elim c.match-put.branch [
        | in-Ok-true w ↦ rw w.ended-is (on_err c.loop-entry.ended (rose_still a b d ens.faults) inv.cause)
        | in-Ok-false w ↦ rw w.ended-is (on_err c.loop-entry.ended (rose_still a b d ens.faults) inv.cause)
        | in-Err w ↦ rw w.ended-is (rose_later a b d inv.never_falls w.in-Err.ensures.cause)
      ];
    }

pub returns-clause-tallied : goal.returns-clause-tallied
returns-clause-tallied g c =
    on_ok c.loop-entry.ended
    (put_some c.args.origin c.loop-entry.fate c.args.entries.now c.loop-entry.entry-index (count_of g.E.Ledger.run.listing) (g.E.Ledger.fates c.args.ledger.now) (g.E.Ledger.fates c.loop-entry.ledger) (omega (arith, c.loop-entry-test.false)))
    c.loop-entry.invariant.tallied
