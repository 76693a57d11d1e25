-- How a range is put on by one entry. `old` is the reader as it was first, `mid` and `new` are it before and after the
-- entry; p, q and r the sink.
use Rattle.std.proofs.Common.{◌≡◌, ℕ, ◌+◌, ◌^◌, ◌<◌, ◌≤◌, ◌++◌, ◌⊎◌, List, length, take, Result, Ok, Err, OnOk, refl, sym, ap, subst, ◌∙◌, arith, inl, inr}
use Rattle.std.proofs.lemmas.Bool.{cases_lt}
use Rattle.std.proofs.lemmas.List.{append-nil}
use Rattle.std.specs.Option.{option_map}
use Rattle.caibx_codec.specs.Listing.{Listing, Rules, count_of, end_of, start_of}
use Rattle.cat_command.proofs.Parts.{before_entry, covered_wider, none_wanted, part_covered, part_only, part_wanted}
use Rattle.cat_command.proofs.Pieces.{puts_more, puts_none, text_front}
use Rattle.cat_command.specs.Putting.{BreaksPutting, EndsPutting, IsText, PutsRange, PutsText, StopsAtEntry, bytes_before, outcome_of_read}
use Rattle.chunk_store.specs.Asks.{Ask}
use Rattle.chunk_store.specs.declared.store.Store.{Ghosts as StoreWords}
use Rattle.command_outcome.specs.declared.outcome.Outcome.{Outcome}
use Rattle.command_outcome.specs.declared.outcome.Outcome.TheVariants as ends
use Rattle.command_worlds.specs.Printing.{answer_of_put}
use Rattle.dsy_base.specs.Counts.{Rose}
use Rattle.dsy_base.specs.Disk.{Output}
use Rattle.dsy_base.specs.declared.fault.IoFault.{IoFault}
use Rattle.dsy_base.specs.declared.fault.IoFault.TheVariants as io
use Rattle.image_reader.proofs.Covering.{wants_taken}
use Rattle.image_reader.proofs.Follows.{reads_follow}
use Rattle.image_reader.proofs.Turns.{reads_none}
use Rattle.image_reader.specs.Covered.{IsCovered, IsCoveredGet, wants_to}
use Rattle.image_reader.specs.Reading.{RangeStops, ReaderState, ReadsTo}
use Rattle.image_reader.specs.declared.refused.ReadRefused.{ReadRefused}
use Rattle.image_reader.specs.declared.refused.ReadRefused.TheVariants as reads
use Rattle.store_chain.proofs.Kept.{kept_on, kept_weaker}

-- a refusal by its outcome
pub refused_so : {S : Type 0} (store : StoreWords S) (at n : ℕ) (old now : ReaderState S) (p q : Output) (why : ReadRefused) → q.faults ≡ p.faults → StopsAtEntry store at n old now p q why → EndsPutting store at n old now p q (Err (outcome_of_read why))
refused_so store at n old now p q (reads.Missing k id) same h = h
refused_so store at n old now p q (reads.Damaged k id s x) same h = h
refused_so store at n old now p q (reads.StoreFault s) same h = h
refused_so store at n old now p q reads.Memory same h = (inl h, same)

-- a part in one entry whose chunk is refused: nothing was put
pub part_stops : {S : Type 0} (store : StoreWords S) (from m i : ℕ) (old now : ReaderState S) (p q : Output) → Rules old.index → i < count_of old.index → start_of old.index i ≤ from → from + m ≤ end_of old.index i → q ≡ p → (why : ReadRefused) → RangeStops store from m old now why
    → EndsPutting store from m old now p q (Err (outcome_of_read why))
part_stops store from m i old now p q rules listed starts ends same why stop =
    let only = part_only old.index rules i from listed starts m ends stop.entry stop.covered in
    let B : ℕ → Type 0 = λ e. bytes_before old.index from e ≡ 0 in
    let none : bytes_before old.index from stop.entry ≡ 0 = subst B (sym only) (omega (arith, starts)) in
    let P : ℕ → Type 0 = λ k. PutsText old.index from k p.taken q.taken in
    refused_so store from m old now p q why (ap (λ (o : Output). o.faults) same) (record {
      stop = stop;
      puts = subst P (sym none) (puts_none old.index from p.taken q.taken (ap (λ (o : Output). o.taken) same));
    })

-- a part in one entry for which there was no room: nothing was read and put
pub part_unread : {S : Type 0} (store : StoreWords S) (from m : ℕ) (old : ReaderState S) (p : Output) → old.chain.asks < 2 ^ 64 → BreaksPutting store from m old old p p
part_unread store from m old p below = record {
  k = 0;
  m = 0;
  listed = omega arith;
  fits = omega arith;
  reads = reads_none store from m 0 old refl below (λ i lt. absurd (omega arith));
  puts = puts_none old.index from p.taken p.taken refl;
  inside = λ i c. (let cover = c.covers in absurd (omega arith));
}

-- printing that is done was put
pub was_put : (r : Result Unit IoFault) (u : Unit {0}) → answer_of_put r ≡ Ok u → (P : Type 0) → OnOk r P → P
was_put (Ok t) u is P h = h
was_put (Err io.Failed) u is P h = absurd (cc)
was_put (Err io.Memory) u is P h = absurd (cc)

-- a part in one entry that the sink refuses: a front of it was put
module _ {S : Type 0} (store : StoreWords S) (from m i : ℕ) (old now : ReaderState S) (p q : Output) (bytes : List ℕ) (rules : Rules old.index) (listed : i < count_of old.index) (starts : start_of old.index i ≤ from) (short : from + m ≤ end_of old.index i)
    (read : ReadsTo store from m (count_of old.index) old now) (text : IsText old.index from m bytes) where
  front_put : (j : ℕ) → j ≤ length bytes → q.taken ≡ option_map (λ t. t ++ take j bytes) p.taken → BreaksPutting store from m old now p q
  front_put j le taken =
      let fits : j ≤ m = (let size = text.size in omega arith) in
      record {
        k = count_of old.index;
        m = j;
        listed = omega arith;
        fits = fits;
        reads = read;
        puts = record { text = take j bytes; bytes = text_front old.index rules i from m listed starts short j bytes fits text; taken = taken };
        inside = λ e c. c.listed;
      }

  none_put : q.taken ≡ p.taken → BreaksPutting store from m old now p q
  none_put same = record { k = count_of old.index; m = 0; listed = omega arith; fits = omega arith; reads = read; puts = puts_none old.index from p.taken q.taken same; inside = λ e c. c.listed }

  pub part_refused : (r : Result Unit IoFault) → (r ≡ Err io.Failed → (j : ℕ) × (j ≤ length bytes) × (q.taken ≡ option_map (λ t. t ++ take j bytes) p.taken)) → (r ≡ Err io.Memory → q.taken ≡ p.taken) → (r ≡ Err io.Failed → Rose p.faults q.faults) → (r ≡ Err io.Memory → q.faults ≡ p.faults)
      → (o : Outcome) → answer_of_put r ≡ Err o → EndsPutting store from m old now p q (Err o)
  part_refused (Ok u) front kept rose still o is = absurd (cc)
  part_refused (Err io.Failed) front kept rose still o is =
      let same : ends.OutFault ≡ o = cc in
      let P : Outcome → Type 0 = λ x. EndsPutting store from m old now p q (Err x) in
      let f = front refl in
      subst P same (rose refl, front_put f.0 f.1 f.2)
  part_refused (Err io.Memory) front kept rose still o is =
      let same : ends.Memory ≡ o = cc in
      let P : Outcome → Type 0 = λ x. EndsPutting store from m old now p q (Err x) in
      subst P same (inr (none_put (kept refl)), still refl)

module _ {S : Type 0} (store : StoreWords S) (at n i done m : ℕ) (old mid new : ReaderState S) (p q r : Output) (rules : Rules old.index) (listed : i < count_of old.index) (starts : start_of old.index i ≤ at + done) (short : at + done + m ≤ end_of old.index i)
    (some : 0 < m) (fits : done + m ≤ n) (exact : done ≡ bytes_before old.index at i) (before : ReadsTo store at n i old mid) (puts : PutsText old.index at done p.taken q.taken) (faults : q.faults ≡ p.faults) where
  abbrev l : Listing
  l = old.index

  abbrev from : ℕ
  from = at + done

  -- the reader before the entry, by what it has kept of the first
  abbrev here : ReaderState S
  here = record { index = old.index; chain = mid.chain; keep = old.keep; kept = mid.kept }

  here_is : mid ≡ here
  here_is = λ i. record { index = before.index i; chain = mid.chain; keep = before.keep i; kept = mid.kept }

  before_here : ReadsTo store at n i old here
  before_here = let P : ReaderState S → Type 0 = λ x. ReadsTo store at n i old x in subst P here_is before

  inside : (j : ℕ) → IsCovered l from m j → IsCovered l at n j
  inside = covered_wider l at n from m (omega arith) (omega arith)

  covered : IsCovered l from m i
  covered = part_covered l rules i from listed starts m short some

  -- this many entries of the part were read
  reads_none_more : (k : ℕ) (now : ReaderState S) → k ≤ i → ReadsTo store from m k here now → ReadsTo store at n i old now
  reads_none_more k now le then =
      let none = none_wanted l rules i from listed starts m short k le in
      reads_follow store old here now at n i before_here from m k i then (sym (ap (λ ws. wants_to l at n i ++ ws) none ∙ append-nil (wants_to l at n i))) (λ j lt c. inl lt) inside

  reads_one_more : (k : ℕ) (now : ReaderState S) → i < k → k ≤ count_of l → ReadsTo store from m k here now → ReadsTo store at n (i + 1) old now
  reads_one_more k now lt le then =
      let one = part_wanted l rules i from listed starts m short some k lt le in
      reads_follow store old here now at n i before_here from m k (i + 1) then (wants_taken l at n i (inside i covered) ∙ ap (λ ws. wants_to l at n i ++ ws) (sym one)) among inside
    where
      among : (j : ℕ) → j < i + 1 → IsCovered l at n j → (j < i) ⊎ ((j < k) × IsCovered l from m j)
      among j less c = elim (cases_lt j i) [
        | inl first ↦ inl first
        | inr ge ↦
            let same : i ≡ j = omega arith in
            let P : ℕ → Type 0 = λ e. (e < k) × IsCovered l from m e in
            inr (subst P same (lt, covered))
      ]

  pub next_reads : PutsRange store from m mid new q r → ReadsTo store at n (i + 1) old new
  next_reads h =
      let P : ReaderState S → Type 0 = λ x. ReadsTo store from m (count_of x.index) x new in
      reads_one_more (count_of l) new listed (omega arith) (subst P here_is h.reads)

  pub next_puts : PutsRange store from m mid new q r → PutsText l at (done + m) p.taken r.taken
  next_puts h =
      let P : ReaderState S → Type 0 = λ x. PutsText x.index from m q.taken r.taken in
      puts_more l at done m p.taken q.taken r.taken puts (subst P here_is h.puts)

  -- the entry's chunk is refused
  stops_there : (why : ReadRefused) → StopsAtEntry store from m here new q r why → StopsAtEntry store at n old new p r why
  stops_there why h =
      let stop = h.stop in
      let only = part_only l rules i from listed starts m short stop.entry stop.covered in
      let R : ℕ → Type 0 = λ e. ReadsTo store at n e old stop.before in
      let get : (a : Ask) → IsCoveredGet l from m a → IsCoveredGet l at n a = λ a g. record { entry = g.entry; covered = inside g.entry g.covered; asked = g.asked } in
      let B : ℕ → Type 0 = λ e. done + bytes_before l from e ≡ bytes_before l at e in
      let all : done + bytes_before l from stop.entry ≡ bytes_before l at stop.entry = subst B (sym only) (omega (arith, exact, starts)) in
      let P : ℕ → Type 0 = λ k. PutsText l at k p.taken r.taken in
      record {
        stop = record {
          entry = stop.entry;
          covered = inside stop.entry stop.covered;
          before = stop.before;
          reads = subst R (sym only) (reads_none_more stop.entry stop.before (omega (arith, only)) stop.reads);
          missed = stop.missed;
          refused = stop.refused;
          told = stop.told;
          fails = stop.fails;
          kept = stop.kept;
          stores = kept_on store (IsCoveredGet l at n) old.chain.stores mid.chain.stores new.chain.stores before.stores
              (kept_weaker store (IsCoveredGet l from m) (IsCoveredGet l at n) get mid.chain.stores new.chain.stores stop.stores);
          since = stop.since;
          kind = stop.kind ∙ before.kind;
          index = stop.index;
          keep = stop.keep;
        };
        puts = subst P all (puts_more l at done (bytes_before l from stop.entry) p.taken q.taken r.taken puts h.puts);
      }

  -- putting ends in it
  breaks_there : BreaksPutting store from m here new q r → BreaksPutting store at n old new p r
  breaks_there h = elim (cases_lt i h.k) [
    | inl more ↦ record {
      k = i + 1;
      m = done + h.m;
      listed = omega (arith, listed);
      fits = omega (arith, fits, h.fits);
      reads = reads_one_more h.k new more h.listed h.reads;
      puts = puts_more l at done h.m p.taken q.taken r.taken puts h.puts;
      inside = λ j c. before_next j c (cases_lt i j);
    }
    | inr le ↦
        let none : h.m ≡ 0 = none_put le (cases_lt 0 h.m) in
        let same : done + h.m ≡ bytes_before l at i = omega (arith, none, exact) in
        let C : ℕ → Type 0 = λ k. (j : ℕ) → IsCovered l at k j → j < i in
        record {
          k = i;
          m = done + h.m;
          listed = omega (arith, listed);
          fits = omega (arith, fits, h.fits);
          reads = reads_none_more h.k new le h.reads;
          puts = puts_more l at done h.m p.taken q.taken r.taken puts h.puts;
          inside = subst C (sym same) (before_entry l rules at i listed);
        }
  ] where
    before_next : (j : ℕ) → IsCovered l at (done + h.m) j → (i < j) ⊎ (j ≤ i) → j < i + 1
    before_next j c (inr le) = omega arith
    before_next j c (inl more) = let start = rules.ordered i j more c.listed in let cover = c.covers in let less = h.fits in absurd (omega arith)

    none_put : h.k ≤ i → (0 < h.m) ⊎ (h.m ≤ 0) → h.m ≡ 0
    none_put le (inr zero_bytes) = omega arith
    none_put le (inl more) =
        let less = h.fits in
        let first = h.inside i (part_covered l rules i from listed starts h.m (omega arith) more) in
        absurd (omega arith)

  at_here : (o : Outcome) → EndsPutting store from m mid new q r (Err o) → EndsPutting store from m here new q r (Err o)
  at_here o h = let P : ReaderState S → Type 0 = λ x. EndsPutting store from m x new q r (Err o) in subst P here_is h

  ends_here : (o : Outcome) → EndsPutting store from m here new q r (Err o) → EndsPutting store at n old new p r (Err o)
  ends_here (ends.Missing k id) h = stops_there (reads.Missing k id) h
  ends_here (ends.Damaged k id s x) h = stops_there (reads.Damaged k id s x) h
  ends_here (ends.StoreFault s) h = stops_there (reads.StoreFault s) h
  ends_here ends.OutFault h = let P : ℕ → Type 0 = λ f. Rose f r.faults in (subst P faults h.0, breaks_there h.1)
  ends_here ends.Memory h = (elim h.0 [ inl stop ↦ inl (stops_there reads.Memory stop) | inr off ↦ inr (breaks_there off) ], h.1 ∙ faults)
  ends_here other h = absurd h

  pub next_ends : (o : Outcome) → EndsPutting store from m mid new q r (Err o) → EndsPutting store at n old new p r (Err o)
  next_ends o h = ends_here o (at_here o h)
