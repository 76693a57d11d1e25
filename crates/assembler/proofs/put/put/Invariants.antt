use Rattle.std.proofs.Common.{◌≡◌, ◌⊎◌, ℕ, ◌<◌, ◌≤◌, slice_index, OnOk, OnErr, is_some, true, false}
use Rattle.dsy_base.specs.Counts.{Rose}
use Rattle.range_survey.specs.Fates.{fate_at, settled}
use Rattle.range_survey.specs.declared.fate.Fate.TheVariants as fate
use Rattle.range_ledger.specs.Fills.{Fills, FillsTorn, Grows, WhereTold}
use Rattle.chunk_sources.specs.Wants.{IsAmong}
use Rattle.assembler.proofs.Tallies.{PutUpTo}
use Rattle.caibx_codec.specs.Listing.{count_of}
use Rattle.assembler.proofs.put.put.Given as goal

abbrev pub invariant-loop-entry : goal.invariant-loop-entry
invariant-loop-entry g l =
    let e = g.E.Ledger in
    let listing = e.run.listing in
    let m0 = e.fates l.fn.ledger in
    let m1 = e.fates l.ledger in
    record {
      next : (l.fate ≡ l.fn.origin) ⊎ (l.fate ≡ fate.Copied);
      ok : OnOk l.ended ((k : ℕ) → k < l.entry-index → settled m1 (slice_index l.entries k) ≡ true);
      origin : (i : ℕ) → settled m0 i ≡ false → settled m1 i ≡ true → (fate_at m1 i ≡ l.fn.origin) ⊎ (fate_at m1 i ≡ fate.Copied);
      only : (i : ℕ) → settled m0 i ≡ false → settled m1 i ≡ true → (k : ℕ) × (k < l.entry-index) × (slice_index l.entries k ≡ i);
      tallied : OnOk l.ended (PutUpTo l.fn.origin l.fate l.entries l.entry-index (count_of listing) m0 m1);
      grows : Grows m0 m1;
      bytes : WhereTold (e.held l.fn.ledger).bytes (e.held l.ledger).bytes (Fills listing m0 m1 (e.faults l.fn.ledger) (e.faults l.ledger));
      tells : is_some (e.held l.ledger).bytes ≡ is_some (e.held l.fn.ledger).bytes;
      name : (e.held l.ledger).name ≡ (e.held l.fn.ledger).name;
      size : (e.held l.ledger).size ≡ (e.held l.fn.ledger).size;
      never_falls : e.faults l.fn.ledger ≤ e.faults l.ledger;
      failed : OnErr l.ended ((i : ℕ) × IsAmong l.entries i × WhereTold (e.held l.fn.ledger).bytes (e.held l.ledger).bytes
          (FillsTorn listing m0 m1 (e.faults l.fn.ledger) (e.faults l.ledger) i));
      cause : OnErr l.ended (Rose (e.faults l.fn.ledger) (e.faults l.ledger));
    }
