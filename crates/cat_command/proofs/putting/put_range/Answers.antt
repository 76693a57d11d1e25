use Rattle.std.proofs.Common.{◌≡◌, ℕ, ◌+◌, ◌-◌, ◌<◌, ◌≤◌, min, refl, ap, subst, ◌∙◌, arith}
use Rattle.caibx_codec.specs.Listing.{Listing, Rules, count_of, end_of}
use Rattle.cat_command.proofs.Entries.{next_ends, next_puts, next_reads}
use Rattle.cat_command.proofs.Pieces.{puts_none}
use Rattle.cat_command.proofs.Ranges.{next_exact, next_fits, next_short, next_some, range_put}
use Rattle.image_reader.proofs.Covering.{at_end, at_first, at_next, none_covered, none_yet}
use Rattle.image_reader.proofs.Turns.{reads_none}
use Rattle.cat_command.proofs.putting.put_range.Goals as goal
use Rattle.cat_command.proofs.putting.put_range.Goals.{else-loop-i-test, then-loop-i-test+then-done-range}

pub loop-i-init : goal.loop-i-init
loop-i-init g c =
    let l : Listing = c.args.reader.now.index in
    let at : ℕ = c.args.range.at in
    let n : ℕ = c.args.range.size in
    let i : ℕ = c.first_past-i.result in
    let R : Listing → Type 0 = λ x. Rules x in
    let rules : Rules l = subst R c.index.ensures.value c.rules.ensures in
    let e = c.first_past-i.ensures in
    let F : Listing → Type 0 = λ x. (i ≤ count_of x) × (((j : ℕ) → j < i → end_of x j ≤ at) × (i < count_of x → at < end_of x i)) in
    let first : F l = subst F c.index-4.ensures.value (e.inside, (e.before, e.first)) in
    let stands = at_first l at n rules c.requires.inside i first.0 first.1.0 first.1.1 in
    record {
      stands = stands;
      exact = λ some. (let start = stands.starts some in omega (arith, start));
      reads = reads_none g.S.Store at n i c.args.reader.now (none_yet l at n rules c.requires.inside i first.1.0) c.asks-asks.ensures.below (none_covered l at n rules c.requires.inside i first.1.0);
      puts = puts_none l at (g.O.Sink.output c.args.out.now).taken (g.O.Sink.output c.args.out.now).taken refl;
      faults = refl;
    }

pub returns-in-Err-clause-ends : goal.returns-in-Err-clause-ends
returns-in-Err-clause-ends g c =
    let l : Listing = c.args.reader.now.index in
    let at : ℕ = c.args.range.at in
    let n : ℕ = c.args.range.size in
    let i : ℕ = c.loop-i.i in
    let done : ℕ = c.loop-i.done in
    let R : Listing → Type 0 = λ x. Rules x in
    let rules : Rules l = subst R c.index.ensures.value c.rules.ensures in
    let before = c.loop-i.invariant in
    let more : done < n = (let fits = before.stands.fits in let other = c.if-done-range.false in omega arith) in
    let many = c.count-count.ensures ∙ ap count_of c.index-3.ensures.value in
    let lt : i < count_of l = omega (arith, c.loop-i-test.true, many) in
    let m : ℕ = min (end_of c.loop-i.reader.index i - (at + done)) (n - done) in
    let is : m ≡ min (end_of l i - (at + done)) (n - done) = ap (λ (x : Listing). min (end_of x i - (at + done)) (n - done)) before.reads.index in
    next_ends g.S.Store at n i done m c.args.reader.now c.loop-i.reader c.put_entry.new.reader (g.O.Sink.output c.args.out.now) (g.O.Sink.output c.loop-i.out) (g.O.Sink.output c.put_entry.new.out) rules lt (before.stands.starts more)
    (next_short l at n i done rules before.stands more lt m is) (next_some l at n i done rules before.stands more lt m is) (next_fits l at n i done rules before.stands more lt m is) (before.exact more) before.reads before.puts before.faults c.in-Err.outcome c.in-Err.ensures.err

pub loop-i-preserved : goal.loop-i-preserved
loop-i-preserved g c =
    let l : Listing = c.args.reader.now.index in
    let at : ℕ = c.args.range.at in
    let n : ℕ = c.args.range.size in
    let i : ℕ = c.loop-i.i in
    let done : ℕ = c.loop-i.done in
    let R : Listing → Type 0 = λ x. Rules x in
    let rules : Rules l = subst R c.index.ensures.value c.rules.ensures in
    let before = c.loop-i.invariant in
    let more : done < n = (let fits = before.stands.fits in let other = c.if-done-range.false in omega arith) in
    let many = c.count-count.ensures ∙ ap count_of c.index-3.ensures.value in
    let lt : i < count_of l = omega (arith, c.loop-i-test.true, many) in
    let m : ℕ = c.in-Ok.more in
    let is : m ≡ min (end_of l i - (at + done)) (n - done) = c.in-Ok.ensures.size ∙ ap (λ (x : Listing). min (end_of x i - (at + done)) (n - done)) before.reads.index in
    let p = g.O.Sink.output c.args.out.now in
    let q = g.O.Sink.output c.loop-i.out in
    let r = g.O.Sink.output c.put_entry.new.out in
    let starts = before.stands.starts more in
    let short = next_short l at n i done rules before.stands more lt m is in
    let some = next_some l at n i done rules before.stands more lt m is in
    let fits = next_fits l at n i done rules before.stands more lt m is in
    let old = c.args.reader.now in
    let mid = c.loop-i.reader in
    let new = c.put_entry.new.reader in
    record {
      stands = at_next l at n rules c.requires.inside i done m before.stands more lt is;
      exact = next_exact l at n i done rules before.stands more lt m is;
      reads = next_reads g.S.Store at n i done m old mid new p q r rules lt starts short some fits (before.exact more) before.reads before.puts before.faults c.in-Ok.ensures.ok;
      puts = next_puts g.S.Store at n i done m old mid new p q r rules lt starts short some fits (before.exact more) before.reads before.puts before.faults c.in-Ok.ensures.ok;
      faults = c.in-Ok.ensures.ok.faults ∙ before.faults;
    }

pub returns-clause-ends : goal.returns-clause-ends
returns-clause-ends g c =
    let l : Listing = c.args.reader.now.index in
    let at : ℕ = c.args.range.at in
    let n : ℕ = c.args.range.size in
    let R : Listing → Type 0 = λ x. Rules x in
    let rules : Rules l = subst R c.index.ensures.value c.rules.ensures in
    let before = c.loop-i.invariant in
    let many = c.count-count.ensures ∙ ap count_of c.index-3.ensures.value in
    let all : c.loop-i.done ≡ n = elim c.loop-i-test.branch [
      | else-loop-i-test w ↦ at_end l at n rules c.requires.inside c.loop-i.i c.loop-i.done before.stands (omega (arith, w.loop-i-test, many))
      | then-loop-i-test+then-done-range w ↦ w.if-done-range.true
    ] in
    range_put g.S.Store at n c.loop-i.i c.loop-i.done c.args.reader.now c.loop-i.reader (g.O.Sink.output c.args.out.now) (g.O.Sink.output c.loop-i.out) rules c.requires.inside before.stands all before.reads before.puts before.faults
