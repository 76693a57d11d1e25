use Rattle.std.proofs.Common.{◌≡◌, ℕ, List, length, map, slice_index, Some, Err, subst}
use Rattle.dsy_base.specs.Counts.{Rose}
use Rattle.dsy_base.specs.Maps.{Map}
use Rattle.store_chain.specs.Faults.{EachQuiet}
use Rattle.image_reader.proofs.Stops.{read_cause, read_exact}
use Rattle.image_reader.specs.Covered.{IsCovered}
use Rattle.image_reader.specs.Images.{ReadsImage, SomeGivesEntry}
use Rattle.image_reader.specs.Reading.{ReaderState, reader_state}
use Rattle.image_reader.specs.declared.refused.ReadRefused.TheVariants as reads
use Rattle.image_reader.proofs.reader.ImageReader.read_at.Goals as goal

pub returns-clause-exactly : goal.returns-clause-exactly
returns-clause-exactly g c =
    let S = g.S.Store in
    let i = c.self.inside in
    let n = length c.args.out.now in
    let r = c.read_range-read in
    let P : ReaderState g.row.S.Denot → Type 0 = λ x. (maps : List (Map (List ℕ))) → map S.holds x.chain.stores ≡ map Some maps → EachQuiet (map S.faults x.chain.stores) (map S.faults r.new.chain.stores)
    → ((j : ℕ) → IsCovered x.index c.args.at n j → SomeGivesEntry x.index j maps) → ReadsImage x.index c.args.at maps r.result r.new.out in
    subst P c.self.view_is (λ maps told quiet given.
    read_exact S c.args.at n (reader_state i.index i.chain i.kept) (reader_state i.index r.new.chain r.new.kept) maps told quiet c.self.invariant.0 given c.rules.ensures r.result r.new.out r.auto.out r.ensures.right r.ensures.err)

pub returns-clause-cause : goal.returns-clause-cause
returns-clause-cause g c =
    let S = g.S.Store in
    let i = c.self.inside in
    let r = c.read_range-read in
    let P : ReaderState g.row.S.Denot → Type 0 = λ x. (s : ℕ) → r.result ≡ Err (reads.StoreFault s) → Rose (slice_index (map S.faults x.chain.stores) s) (slice_index (map S.faults r.new.chain.stores) s) in
    subst P c.self.view_is (read_cause S c.args.at (length c.args.out.now) (reader_state i.index i.chain i.kept) (reader_state i.index r.new.chain r.new.kept) r.result r.ensures.err)
