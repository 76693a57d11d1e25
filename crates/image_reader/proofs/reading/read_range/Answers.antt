use Rattle.std.proofs.Common.{◌≡◌, ℕ, ◌+◌, ◌-◌, ◌^◌, ◌<◌, ◌++◌, List, length, drop, min, take, arith, refl, ap, ◌∙◌, inl, inr}
use Rattle.caibx_codec.specs.Listing.{Listing, count_of, end_of, id_of}
use Rattle.chunk_store.specs.Asks.{Ask, Get}
use Rattle.store_chain.proofs.Kept.{kept_on, kept_weaker}
use Rattle.image_reader.proofs.Covering.{all_read, at_end, at_first, at_next, here, none_covered, none_yet, only_read}
use Rattle.image_reader.proofs.Fronts.{front_all, front_next, front_none}
use Rattle.image_reader.proofs.Turns.{reads_all, reads_hit, reads_miss, reads_none}
use Rattle.image_reader.specs.Covered.{IsCoveredGet}
use Rattle.image_reader.specs.Keeping.{Kept}
use Rattle.image_reader.specs.Reading.{reader_state}
use Rattle.image_reader.proofs.reading.read_range.Goals as goal

pub loop-i-init : goal.loop-i-init
loop-i-init g c =
    let l : Listing = c.args.index.now in
    let at : ℕ = c.args.at in
    let n : ℕ = length c.args.out.now in
    let i : ℕ = c.first_past-i.result in
    let e = c.first_past-i.ensures in
    record {
      stands = at_first l at n c.rules.ensures c.requires.inside i e.inside e.before e.first;
      reads = reads_none g.S.Store at n i (reader_state l c.args.chain.now c.args.kept.now) (none_yet l at n c.rules.ensures c.requires.inside i e.before) c.asks-asks.ensures.below (none_covered l at n c.rules.ensures c.requires.inside i e.before);
      front = λ t right. front_none l at n t c.args.out.now;
      kinds = refl;
    }

pub loop-i-preserved : goal.loop-i-preserved
loop-i-preserved g c =
    let l : Listing = c.args.index.now in
    let at : ℕ = c.args.at in
    let n : ℕ = length c.args.out.now in
    let i : ℕ = c.loop-i.i in
    let done : ℕ = c.loop-i.done in
    let m : ℕ = c.in-Ok.more in
    let before = c.loop-i.invariant in
    let e = c.in-Ok.ensures in
    let same : length c.loop-i.out ≡ n = c.loop-i.auto.out in
    let more : done < n = (let fits = before.stands.fits in let other = c.if-done-out.false in omega arith) in
    let lt : i < count_of l = omega (arith, c.loop-i-test.true, c.count-i-end.ensures) in
    let covered = here l at n c.rules.ensures c.requires.inside i done before.stands more lt in
    let left = c.split_at_mut-rest.ensures.back_len in
    let size : m ≡ min (end_of l i - (at + done)) (n - done) = (let s = e.size in omega arith) in
    let old = reader_state l c.args.chain.now c.args.kept.now in
    let mid = reader_state l c.loop-i.chain c.loop-i.kept in
    let new = reader_state l c.read_entry.new.chain c.read_entry.new.kept in
    record {
      stands = at_next l at n c.rules.ensures c.requires.inside i done m before.stands more lt size;
      reads = elim e.ok [
        | inl hit ↦ reads_hit g.S.Store at n i old mid new before.reads covered hit
        | inr miss ↦ reads_miss g.S.Store at n i old mid new before.reads covered miss
      ];
      front = λ t right.
          let starts = before.stands.starts more in
          let ends = before.stands.ends more lt in
          front_next l at n c.rules.ensures t right i done m e.bytes.0 c.loop-i.out (drop m c.split_at_mut-rest.result.1.now) c.read_entry.new.out (c.split_at_mut-rest.result.0.now ++ c.read_entry.new.out)
          covered starts (omega arith) (omega arith) e.bytes.1 e.bytes.2 (ap (λ (x : List ℕ). x ++ c.read_entry.new.out) c.split_at_mut-rest.ensures.front) (before.front t right);
      kinds = c.read_entry.ensures.digest ∙ before.kinds;
    }

pub returns-in-Err-clause-err : goal.returns-in-Err-clause-err
returns-in-Err-clause-err g c =
    let l : Listing = c.args.index.now in
    let at : ℕ = c.args.at in
    let n : ℕ = length c.args.out.now in
    let i : ℕ = c.loop-i.i in
    let done : ℕ = c.loop-i.done in
    let before = c.loop-i.invariant in
    let e = c.in-Err.ensures.err in
    let same : length c.loop-i.out ≡ n = c.loop-i.auto.out in
    let more : done < n = (let fits = before.stands.fits in let other = c.if-done-out.false in omega arith) in
    let lt : i < count_of l = omega (arith, c.loop-i-test.true, c.count-i-end.ensures) in
    let covered = here l at n c.rules.ensures c.requires.inside i done before.stands more lt in
    let old = reader_state l c.args.chain.now c.args.kept.now in
    let mid = reader_state l c.loop-i.chain c.loop-i.kept in
    let get : (a : Ask) → a ≡ Get (id_of l i) → IsCoveredGet l at n a = λ a h. record { entry = i; covered = covered; asked = h } in
    record {
      entry = i;
      covered = covered;
      before = mid;
      reads = before.reads;
      missed = e.2;
      refused = e.0;
      told = e.1;
      fails = e.3;
      kept = ap (λ (k : Kept). k.wants) e.4 ∙ ap (λ (k : ℕ). take (k - 1) c.loop-i.kept.wants) before.reads.keep;
      since = c.read_entry.ensures.kept;
      stores = kept_on g.S.Store (IsCoveredGet l at n) c.args.chain.now.stores c.loop-i.chain.stores c.read_entry.new.chain.stores before.reads.stores
          (kept_weaker g.S.Store (λ a. a ≡ Get (id_of l i)) (IsCoveredGet l at n) get c.loop-i.chain.stores c.read_entry.new.chain.stores c.read_entry.ensures.kept);
      kind = c.read_entry.ensures.same ∙ before.reads.kind;
      index = refl;
      keep = ap (λ (k : Kept). k.keep) e.4 ∙ before.reads.keep;
    }

pub returns-after-loop-i-clause-right : goal.returns-after-loop-i-clause-right
returns-after-loop-i-clause-right g c = λ t right.
    let l : Listing = c.args.index.now in
    let n : ℕ = length c.args.out.now in
    let before = c.loop-i.invariant in
    let all = at_end l c.args.at n c.rules.ensures c.requires.inside c.loop-i.i c.loop-i.done before.stands (omega (arith, c.loop-i-test.false, c.count-i-end.ensures)) in
    front_all l c.args.at n c.loop-i.done t c.loop-i.out all c.loop-i.auto.out (before.front t right)

pub returns-after-loop-i-clause-ok : goal.returns-after-loop-i-clause-ok
returns-after-loop-i-clause-ok g c =
    let l : Listing = c.args.index.now in
    let n : ℕ = length c.args.out.now in
    let before = c.loop-i.invariant in
    let all = at_end l c.args.at n c.rules.ensures c.requires.inside c.loop-i.i c.loop-i.done before.stands (omega (arith, c.loop-i-test.false, c.count-i-end.ensures)) in
    reads_all g.S.Store c.args.at n c.loop-i.i (reader_state l c.args.chain.now c.args.kept.now) (reader_state l c.loop-i.chain c.loop-i.kept)
    (all_read l c.args.at n c.rules.ensures c.requires.inside c.loop-i.i c.loop-i.done before.stands all) (only_read l c.args.at n c.rules.ensures c.requires.inside c.loop-i.i c.loop-i.done before.stands all) before.reads

pub returns-then-done-out-clause-right : goal.returns-then-done-out-clause-right
returns-then-done-out-clause-right g c = λ t right.
    let l : Listing = c.args.index.now in
    let n : ℕ = length c.args.out.now in
    let before = c.loop-i.invariant in
    let all : c.loop-i.done ≡ n = c.if-done-out.true ∙ c.loop-i.auto.out in
    front_all l c.args.at n c.loop-i.done t c.loop-i.out all c.loop-i.auto.out (before.front t right)

pub returns-then-done-out-clause-ok : goal.returns-then-done-out-clause-ok
returns-then-done-out-clause-ok g c =
    let l : Listing = c.args.index.now in
    let n : ℕ = length c.args.out.now in
    let before = c.loop-i.invariant in
    let all : c.loop-i.done ≡ n = c.if-done-out.true ∙ c.loop-i.auto.out in
    reads_all g.S.Store c.args.at n c.loop-i.i (reader_state l c.args.chain.now c.args.kept.now) (reader_state l c.loop-i.chain c.loop-i.kept)
    (all_read l c.args.at n c.rules.ensures c.requires.inside c.loop-i.i c.loop-i.done before.stands all) (only_read l c.args.at n c.rules.ensures c.requires.inside c.loop-i.i c.loop-i.done before.stands all) before.reads

pub overflow_add-at : goal.overflow_add-at
overflow_add-at g c =
    let short : c.length-length.result < 2 ^ 64 = c.length-length.type_inv in
    let fits = c.loop-i.invariant.stands.fits in
    omega (arith, c.length-length.ensures, c.requires.inside)

pub split_at_mut-rest-requires : goal.split_at_mut-rest-requires
split_at_mut-rest-requires g c = let fits = c.loop-i.invariant.stands.fits in let same = c.loop-i.auto.out in omega arith
