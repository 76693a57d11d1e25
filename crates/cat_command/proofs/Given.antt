-- What was got of stores by a reader that kept nothing first, and how often they were asked.
use Rattle.std.proofs.Common.{◌≡◌, ℕ, zero, suc, ◌+◌, ◌-◌, ◌≤◌, ◌++◌, false, true, cond, List, [], ◌∷◌, map, Result, Ok, Err, refl, sym, ap, subst, ◌∙◌, arith, inl, inr}
use Rattle.std.proofs.lemmas.List.{append-nil, append_assoc}
use Rattle.std.proofs.lemmas.List.Sums.{sum_by-append}
use Rattle.std.specs.List.{AllZip}
use Rattle.std.specs.Str.{bytes_eq}
use Rattle.caibx_codec.specs.Listing.{Listing, Rules, count_of}
use Rattle.cat_command.proofs.Parts.{before_entry, covered_wider}
use Rattle.cat_command.proofs.Pieces.{puts_none}
use Rattle.cat_command.specs.Putting.{BreaksPutting, EndsGiving, EndsPutting, PutsGiven, PutsRange, PutsUntil, StopsAtEntry, bytes_before, chunk_at}
use Rattle.chunk_store.specs.Said.{AskedOnce}
use Rattle.chunk_store.specs.declared.store.Giver.{Giver}
use Rattle.chunk_store.specs.declared.id.ChunkId.{ChunkId}
use Rattle.chunk_store.specs.declared.id.DigestKind.{DigestKind}
use Rattle.chunk_store.specs.declared.shows.Shows.{Shows}
use Rattle.chunk_store.specs.declared.store.Store.{Ghosts as StoreWords}
use Rattle.command_outcome.specs.declared.outcome.Outcome.{Outcome}
use Rattle.command_outcome.specs.declared.outcome.Outcome.TheVariants as ends
use Rattle.command_steps.proofs.Lacked.{same_length}
use Rattle.dsy_base.specs.Disk.{Output}
use Rattle.image_reader.proofs.Covering.{next_is, wants_taken}
use Rattle.image_reader.proofs.Got.{shown_still}
use Rattle.image_reader.proofs.Steps.{missed_on, missed_push}
use Rattle.image_reader.proofs.Turns.{asks_once_more, each_then}
use Rattle.image_reader.specs.Covered.{IsCoveredGet, covers_entry, want_of, wants_of, wants_to}
use Rattle.image_reader.specs.Keeping.{has_want, missed, step}
use Rattle.image_reader.specs.Reading.{AsksWants, IsGot, IsHad, RangeStops, ReaderState, ReadsTo}
use Rattle.image_reader.specs.Refusals.{MissFails, read_refused_of}
use Rattle.image_reader.specs.declared.refused.ReadRefused.{ReadRefused}
use Rattle.image_reader.specs.declared.refused.ReadRefused.TheVariants as reads
use Rattle.image_reader.specs.declared.want.Want.{Want}
use Rattle.store_chain.specs.Chains.{AsksOnce, Chained, KeepsStores}
use Rattle.store_chain.proofs.Pairs.{all_zip_same}
use Rattle.store_chain.specs.Giving.{LacksAll}
use Rattle.store_chain.specs.Refusals.{Refuses}
use Rattle.store_chain.specs.declared.refused.Refused.{Refused}
use Rattle.store_chain.specs.declared.refused.Refused.TheVariants as refused

-- ---- how often they were asked

pub each_weaker : {A : Type 0} (P R : A → A → Type 0) → ((a b : A) → P a b → R a b) → (xs ys : List A) → AllZip P xs ys → AllZip R xs ys
each_weaker P R go [] [] all = tt
each_weaker P R go [] (y ∷ ys) all = absurd all
each_weaker P R go (x ∷ xs) [] all = absurd all
each_weaker P R go (x ∷ xs) (y ∷ ys) all = (go x y all.0, each_weaker P R go xs ys all.1)

asks_fewer : (ws vs : List Want) (old new : List ℕ → ℕ) → AsksWants ws old new → AsksWants (ws ++ vs) old new
asks_fewer ws vs old new h = record {
  no_less = h.no_less;
  most = λ q. (let both = sum_by-append (λ (w : Want). cond (bytes_eq w.id.0 q) 1 0) ws vs in omega (arith, h.most q, both));
}

-- the wants of fewer entries stand in front of those of more
wants_front : (l : Listing) (at n k d : ℕ) → (rest : List Want) × (wants_to l at n (k + d) ≡ wants_to l at n k ++ rest)
wants_front l at n k zero = let same : k + 0 ≡ k = omega arith in ([], ap (wants_to l at n) same ∙ sym (append-nil (wants_to l at n k)))
wants_front l at n k (suc d) =
    let r = wants_front l at n k d in
    let more : List Want = cond (covers_entry l at n (k + d)) (want_of l (k + d) ∷ []) [] in
    let one : k + suc d ≡ k + d + 1 = omega arith in
    (r.0 ++ more, ap (wants_to l at n) one ∙ (next_is l at n (k + d) (covers_entry l at n (k + d)) refl ∙ (ap (λ ws. ws ++ more) r.1 ∙ append_assoc (wants_to l at n k) r.0 more)))

module _ {S : Type 0} (store : StoreWords S) (at n : ℕ) (l : Listing) (c : Chained S) (keep : ℕ) (now : ReaderState S) (p q : Output) where
  -- the reader as it was first
  abbrev old : ReaderState S
  old = record { index = l; chain = c; keep = keep; kept = [] }

  abbrev Asked : List Want → List S → Type 0
  Asked ws d = AllZip (λ a b. AsksWants (missed keep [] ws) (store.asked a) (store.asked b)) c.stores d

  fewer : (k : ℕ) (d : List S) → k ≤ count_of l → Asked (wants_to l at n k) d → Asked (wants_of l at n) d
  fewer k d le h =
      let r = wants_front l at n k (count_of l - k) in
      let all : k + (count_of l - k) ≡ count_of l = omega arith in
      let is : wants_of l at n ≡ wants_to l at n k ++ r.0 = ap (wants_to l at n) (sym all) ∙ r.1 in
      let front = missed keep [] (wants_to l at n k) in
      let rest = missed keep (step keep [] (wants_to l at n k)).kept r.0 in
      let both : front ++ rest ≡ missed keep [] (wants_of l at n) = sym (missed_on keep [] (wants_to l at n k) r.0) ∙ ap (missed keep []) (sym is) in
      let P : List Want → Type 0 = λ ws. AllZip (λ a b. AsksWants ws (store.asked a) (store.asked b)) c.stores d in
      subst P both (each_weaker (λ a b. AsksWants front (store.asked a) (store.asked b)) (λ a b. AsksWants (front ++ rest) (store.asked a) (store.asked b)) (λ a b g. asks_fewer front rest (store.asked a) (store.asked b) g) c.stores d h)

  -- what stands of the stores however putting ends
  pub record Lasts : Type 0 where
    pub kept : KeepsStores store (IsCoveredGet l at n) c.stores now.chain.stores
    pub asks : Asked (wants_of l at n) now.chain.stores
    pub queries : map store.queried now.chain.stores ≡ map store.queried c.stores
    pub kind : now.chain.kind ≡ c.kind

  reads_last : (k : ℕ) → k ≤ count_of l → ReadsTo store at n k old now → Lasts
  reads_last k le h = record { kept = h.stores; asks = fewer k now.chain.stores le h.times; queries = h.queries; kind = h.kind }

  module _ (why : ReadRefused) (stop : RangeStops store at n old now why) where
    once : AsksOnce store.asked store.queried (want_of l stop.entry).id.0 stop.before.chain now.chain → Lasts
    once h =
        let e = stop.entry in
        let w = want_of l e in
        let front = missed keep [] (wants_to l at n e) in
        let lacks : has_want (step keep [] (wants_to l at n e)).kept w ≡ false = sym (ap (λ ks. has_want ks w) stop.reads.kept) ∙ stop.missed in
        let is : front ++ w ∷ [] ≡ missed keep [] (wants_to l at n (e + 1)) = sym (missed_push keep [] (wants_to l at n e) w false lacks) ∙ ap (missed keep []) (sym (wants_taken l at n e stop.covered)) in
        let P : List Want → Type 0 = λ ws. AllZip (λ a b. AsksWants ws (store.asked a) (store.asked b)) c.stores now.chain.stores in
        let times : Asked (wants_to l at n (e + 1)) now.chain.stores =
        subst P is (each_then (λ a b. AsksWants front (store.asked a) (store.asked b)) (λ a b. AskedOnce (store.asked a) (store.asked b) w.id.0) (λ a b. AsksWants (front ++ w ∷ []) (store.asked a) (store.asked b))
        (λ a b d g k. asks_once_more front w (store.asked a) (store.asked b) (store.asked d) g k) c.stores stop.before.chain.stores now.chain.stores stop.reads.times h.stores) in
        record {
          kept = stop.stores;
          asks = fewer (e + 1) now.chain.stores (omega (arith, stop.covered.listed)) times;
          queries = h.queries ∙ stop.reads.queries;
          kind = stop.kind;
        }

    by_fault : (r : Refused) → MissFails store (want_of l stop.entry) r stop.before.chain now.chain → Lasts
    by_fault r (inl h) = once h.asked
    by_fault r (inr (none, inl same)) =
        let T : Chained S → Type 0 = λ d. Asked (wants_to l at n stop.entry) d.stores in
        record {
          kept = stop.stores;
          asks = fewer stop.entry now.chain.stores (omega (arith, stop.covered.listed)) (subst T (sym same) stop.reads.times);
          queries = ap (λ (d : Chained S). map store.queried d.stores) same ∙ stop.reads.queries;
          kind = stop.kind;
        }
    by_fault r (inr (none, inr h)) = once h

    stop_lasts : Lasts
    stop_lasts = by_fault stop.refused stop.fails

  pub ends_last : (r : Result Unit Outcome) → EndsPutting store at n old now p q r → Lasts
  ends_last (Ok u) h = reads_last (count_of l) (omega arith) h.reads
  ends_last (Err (ends.Missing k id)) h = stop_lasts (reads.Missing k id) h.stop
  ends_last (Err (ends.Damaged k id s x)) h = stop_lasts (reads.Damaged k id s x) h.stop
  ends_last (Err (ends.StoreFault s)) h = stop_lasts (reads.StoreFault s) h.stop
  ends_last (Err ends.OutFault) h = reads_last h.1.k h.1.listed h.1.reads
  ends_last (Err ends.Memory) (inl h, same) = stop_lasts reads.Memory h.stop
  ends_last (Err ends.Memory) (inr h, same) = reads_last h.k h.listed h.reads
  ends_last (Err other) h = absurd h

  -- ---- what was got

  got : (x : ReaderState S) (w : Want) → IsHad store w old x → IsGot store c.kind w c.stores x.chain.stores
  got x w (inl has) = let no : false ≡ true = has in absurd (cc)
  got x w (inr h) = h

  range_given : PutsRange store at n old now p q → PutsGiven store l at n c now.chain p q n
  range_given h = record { fits = omega arith; puts = h.puts; given = λ i covered. got now (want_of l i) (h.reads.had i covered.listed covered) }

  off_given : (h : BreaksPutting store at n old now p q) → PutsGiven store l at n c now.chain p q h.m
  off_given h = record { fits = h.fits; puts = h.puts; given = λ i covered. got now (want_of l i) (h.reads.had i (h.inside i covered) (covered_wider l at n at h.m (omega arith) (omega (arith, h.fits)) i covered)) }

  module _ (rules : Rules l) (why : ReadRefused) (h : StopsAtEntry store at n old now p q why) where
    abbrev stop : RangeStops store at n old now why
    stop = h.stop

    abbrev entry : ℕ
    entry = stop.entry

    abbrev w : Want
    w = want_of l entry

    short : bytes_before l at entry ≤ n
    short = let cover = stop.covered.covers in omega arith

    got_later : (i : ℕ) → IsGot store c.kind (want_of l i) c.stores stop.before.chain.stores → IsGot store c.kind (want_of l i) c.stores now.chain.stores
    got_later i g = record {
      bytes = g.bytes;
      chunk = g.chunk;
      shown = shown_still store.said (want_of l i).id.0 g.bytes stop.before.chain.stores now.chain.stores stop.since.says g.shown;
      held = g.held;
    }

    stop_given : PutsGiven store l at n c now.chain p q (bytes_before l at entry)
    stop_given = record {
      fits = short;
      puts = h.puts;
      given = λ i covered. got_later i (got stop.before (want_of l i) (stop.reads.had i (before_entry l rules at entry stop.covered.listed i covered) (covered_wider l at n at (bytes_before l at entry) (omega arith) (omega (arith, short)) i covered)));
    }

    -- the reason is the stores'
    until : (r : Refused) → MissFails store w r stop.before.chain now.chain → (r ≡ refused.Memory → ⊥) → PutsUntil store l at n c now.chain p q entry w.id r
    until r (inr none) known = absurd (known none.0)
    until r (inl f) known =
        let R : DigestKind → Type 0 = λ k. Refuses store.said store.faults store.may_lack_memory (chunk_at k l entry) stop.before.chain.stores now.chain.stores r in
        record {
          covered = stop.covered;
          id_is = refl;
          puts = stop_given;
          before = stop.before.chain.stores;
          many = same_length store.place stop.before.chain.stores now.chain.stores (sym stop.since.places);
          refused = subst R stop.reads.kind f.refused;
          lacks = λ maps told. (let L : DigestKind → Type 0 = λ k. LacksAll (chunk_at k l entry) maps r in subst L stop.reads.kind (f.lacks maps (stop.reads.stores.held ∙ told)));
        }

    abbrev Until : ℕ → ChunkId → Refused → Type 0
    Until k id r = PutsUntil store l at n c now.chain p q k id r

    missing_until : (r : Refused) (k : ℕ) (id : ChunkId) → reads.Missing k id ≡ read_refused_of entry w.id r → (r ≡ refused.Memory → ⊥) → MissFails store w r stop.before.chain now.chain → Until k id refused.Missing
    missing_until refused.Missing k id is known f =
        let at_entry : entry ≡ k = cc in
        let named : w.id ≡ id = cc in
        let P : ℕ → Type 0 = λ e. Until e id refused.Missing in
        let Q : ChunkId → Type 0 = λ i. Until entry i refused.Missing in
        subst P at_entry (subst Q named (until refused.Missing f known))
    missing_until (refused.Damaged s x) k id is known f = absurd (cc)
    missing_until (refused.StoreFault s) k id is known f = absurd (cc)
    missing_until refused.Memory k id is known f = absurd (cc)

    damaged_until : (r : Refused) (k : ℕ) (id : ChunkId) (s : Giver) (x : Shows) → reads.Damaged k id s x ≡ read_refused_of entry w.id r → (r ≡ refused.Memory → ⊥) → MissFails store w r stop.before.chain now.chain → Until k id (refused.Damaged s x)
    damaged_until refused.Missing k id s x is known f = absurd (cc)
    damaged_until (refused.Damaged u y) k id s x is known f =
        let at_entry : entry ≡ k = cc in
        let named : w.id ≡ id = cc in
        let number : u ≡ s = cc in
        let shown : y ≡ x = cc in
        let P : ℕ → Type 0 = λ e. Until e id (refused.Damaged s x) in
        let Q : ChunkId → Type 0 = λ i. Until entry i (refused.Damaged s x) in
        let R : Giver → Type 0 = λ t. Until entry w.id (refused.Damaged t x) in
        let T : Shows → Type 0 = λ z. Until entry w.id (refused.Damaged u z) in
        subst P at_entry (subst Q named (subst R number (subst T shown (until (refused.Damaged u y) f known))))
    damaged_until (refused.StoreFault u) k id s x is known f = absurd (cc)
    damaged_until refused.Memory k id s x is known f = absurd (cc)

    failed_until : (r : Refused) (s : ℕ) → reads.StoreFault s ≡ read_refused_of entry w.id r → (r ≡ refused.Memory → ⊥) → MissFails store w r stop.before.chain now.chain → Until entry w.id (refused.StoreFault s)
    failed_until refused.Missing s is known f = absurd (cc)
    failed_until (refused.Damaged u y) s is known f = absurd (cc)
    failed_until (refused.StoreFault u) s is known f =
        let number : u ≡ s = cc in
        let P : ℕ → Type 0 = λ t. Until entry w.id (refused.StoreFault t) in
        subst P number (until (refused.StoreFault u) f known)
    failed_until refused.Memory s is known f = absurd (cc)

  -- a refusal for want of memory alone is told as that
  no_memory : (e : ℕ) (id : ChunkId) (r : Refused) (why : ReadRefused) → why ≡ read_refused_of e id r → (why ≡ reads.Memory → ⊥) → r ≡ refused.Memory → ⊥
  no_memory e id r why told known is = known (told ∙ ap (read_refused_of e id) is)

  pub ends_given : (rules : Rules l) (r : Result Unit Outcome) → EndsPutting store at n old now p q r → EndsGiving store l at n c now.chain p q r
  ends_given rules (Ok u) h = range_given h
  ends_given rules (Err (ends.Missing k id)) h =
      let s = h.stop in
      missing_until rules (reads.Missing k id) h s.refused k id s.told (no_memory s.entry (want_of l s.entry).id s.refused (reads.Missing k id) s.told (λ is. absurd (cc))) s.fails
  ends_given rules (Err (ends.Damaged k id t x)) h =
      let s = h.stop in
      damaged_until rules (reads.Damaged k id t x) h s.refused k id t x s.told (no_memory s.entry (want_of l s.entry).id s.refused (reads.Damaged k id t x) s.told (λ is. absurd (cc))) s.fails
  ends_given rules (Err (ends.StoreFault t)) h =
      let s = h.stop in
      (s.entry, (want_of l s.entry).id, failed_until rules (reads.StoreFault t) h s.refused t s.told (no_memory s.entry (want_of l s.entry).id s.refused (reads.StoreFault t) s.told (λ is. absurd (cc))) s.fails)
  ends_given rules (Err ends.OutFault) h = (h.0, (h.1.m, off_given h.1))
  ends_given rules (Err ends.Memory) (inl h, same) = ((bytes_before l at h.stop.entry, stop_given rules reads.Memory h), same)
  ends_given rules (Err ends.Memory) (inr h, same) = ((h.m, off_given h), same)
  ends_given rules (Err other) h = absurd h

-- nothing was asked of them
pub asks_nothing : {S : Type 0} (store : StoreWords S) (ws : List Want) (xs : List S) → AllZip (λ a b. AsksWants ws (store.asked a) (store.asked b)) xs xs
asks_nothing store ws xs = all_zip_same (λ a b. AsksWants ws (store.asked a) (store.asked b)) (λ s. record { no_less = λ q. omega arith; most = λ q. omega arith }) xs

-- and nothing was put
pub nothing_given : {S : Type 0} (store : StoreWords S) (at n : ℕ) (l : Listing) (c : Chained S) (p : Output) → PutsGiven store l at n c c p p 0
nothing_given store at n l c p = record { fits = omega arith; puts = puts_none l at p.taken p.taken refl; given = λ i covered. (let cover = covered.covers in absurd (omega arith)) }
