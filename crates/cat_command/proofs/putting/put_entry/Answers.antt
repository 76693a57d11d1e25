use Rattle.std.proofs.Common.{◌≡◌, ℕ, ◌-◌, ◌++◌, List, min, length, Err, Ok, refl, sym, subst, ◌∙◌, arith, inr}
use Rattle.std.specs.Option.{option_map}
use Rattle.caibx_codec.specs.Listing.{Listing, Rules, count_of, end_of}
use Rattle.cat_command.proofs.Entries.{part_refused, part_stops, part_unread, was_put}
use Rattle.cat_command.specs.Putting.{EndsPutting}
use Rattle.command_outcome.specs.declared.outcome.Outcome.{Outcome}
use Rattle.command_worlds.specs.Printing.{answer_of_put}
use Rattle.image_reader.specs.Images.{IsRange, IsRightInRange}
use Rattle.image_reader.specs.Reading.{RangeStops, ReadsTo}
use Rattle.cat_command.proofs.putting.put_entry.Goals as goal

pub returns-in_default-clause-err : goal.returns-in_default-clause-err
returns-in_default-clause-err g c = (inr (part_unread g.S.Store c.args.at (min (end_of c.args.reader.now.index c.args.i - c.args.at) c.args.most) c.args.reader.now (g.O.Sink.output c.args.out.now) c.asks-asks.ensures.below), refl)

pub returns-in-Err-clause-err : goal.returns-in-Err-clause-err
returns-in-Err-clause-err g c =
    let l : Listing = c.args.reader.now.index in
    let m : ℕ = min (end_of l c.args.i - c.args.at) c.args.most in
    let R : Listing → Type 0 = λ x. Rules x in
    let rules : Rules l = subst R c.index.ensures.value c.rules.ensures in
    let size : length c.as_mut_slice-part.result.now ≡ m = grind arith in
    let N : ℕ → Type 0 = λ n. RangeStops g.S.Store c.args.at n c.args.reader.now c.read_at.new.self c.in-Err.refused in
    let p = g.O.Sink.output c.args.out.now in
    let P : Outcome → Type 0 = λ o. EndsPutting g.S.Store c.args.at m c.args.reader.now c.read_at.new.self p p (Err o) in
    subst P (sym c.unread.ensures) (part_stops g.S.Store c.args.at m c.args.i c.args.reader.now c.read_at.new.self p p rules c.requires.listed c.requires.from (omega (arith, c.requires.to)) refl c.in-Err.refused (subst N size c.in-Err.ensures.err))

pub returns-in-Ok-printed-clause-ok : goal.returns-in-Ok-printed-clause-ok
returns-in-Ok-printed-clause-ok g c =
    let l : Listing = c.args.reader.now.index in
    let m : ℕ = c.min-size.result in
    let size : length c.as_mut_slice-part.result.now ≡ m = grind arith in
    let N : ℕ → Type 0 = λ n. ReadsTo g.S.Store c.args.at n (count_of l) c.args.reader.now c.read_at.new.self in
    let T : ℕ → Type 0 = λ n. (t : List ℕ) → IsRightInRange t l c.args.at n → IsRange l c.args.at n t c.read_at.new.out in
    let p = g.O.Sink.output c.args.out.now in
    let q = g.O.Sink.output c.put.new.self in
    let is : answer_of_put c.put.result ≡ Ok c.in-Ok-printed.field-0 = sym c.printed.ensures ∙ c.in-Ok-printed.is in
    record {
      reads = subst N size c.in-Ok-read_at.ensures.ok;
      puts = record {
        text = c.read_at.new.out;
        bytes = record { size = c.read_at.auto.out ∙ size; right = subst T size c.in-Ok-read_at.ensures.right };
        taken = was_put c.put.result c.in-Ok-printed.field-0 is (q.taken ≡ option_map (λ t. t ++ c.read_at.new.out) p.taken) c.put.ensures.ok;
      };
      faults = was_put c.put.result c.in-Ok-printed.field-0 is (q.faults ≡ p.faults) c.put.ensures.faults.done;
    }

pub returns-clause-err : goal.returns-clause-err
returns-clause-err g c =
    let l : Listing = c.args.reader.now.index in
    let m : ℕ = min (end_of l c.args.i - c.args.at) c.args.most in
    let R : Listing → Type 0 = λ x. Rules x in
    let rules : Rules l = subst R c.index.ensures.value c.rules.ensures in
    let size : length c.as_mut_slice-part.result.now ≡ m = grind arith in
    let N : ℕ → Type 0 = λ n. ReadsTo g.S.Store c.args.at n (count_of l) c.args.reader.now c.read_at.new.self in
    let T : ℕ → Type 0 = λ n. (t : List ℕ) → IsRightInRange t l c.args.at n → IsRange l c.args.at n t c.read_at.new.out in
    let p = g.O.Sink.output c.args.out.now in
    let q = g.O.Sink.output c.put.new.self in
    part_refused g.S.Store c.args.at m c.args.i c.args.reader.now c.read_at.new.self p q c.read_at.new.out rules c.requires.listed c.requires.from (omega (arith, c.requires.to)) (subst N size c.in-Ok-read_at.ensures.ok)
    (record { size = c.read_at.auto.out ∙ size; right = subst T size c.in-Ok-read_at.ensures.right }) c.put.result c.put.ensures.err c.put.ensures.kept c.put.ensures.faults.cause c.put.ensures.faults.unfailed c.in-Err-printed.outcome (sym c.printed.ensures ∙ c.in-Err-printed.is)
