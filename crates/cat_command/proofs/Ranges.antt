-- How far a range was put: `done` bytes, up to entry i, of which m are next.
use Rattle.std.proofs.Common.{◌≡◌, ℕ, ◌+◌, ◌-◌, ◌<◌, ◌≤◌, min, subst, arith}
use Rattle.caibx_codec.specs.Listing.{Listing, Rules, count_of, end_of, image_length}
use Rattle.cat_command.specs.Putting.{PutsRange, PutsText, bytes_before}
use Rattle.chunk_store.specs.declared.store.Store.{Ghosts as StoreWords}
use Rattle.dsy_base.specs.Disk.{Output}
use Rattle.image_reader.proofs.Covering.{IsAt, all_read, only_read}
use Rattle.image_reader.proofs.Turns.{reads_all}
use Rattle.image_reader.specs.Reading.{ReaderState, ReadsTo}

module _ (l : Listing) (at n i done : ℕ) (rules : Rules l) (stands : IsAt l at n i done) (more : done < n) (listed : i < count_of l) (m : ℕ) (is : m ≡ min (end_of l i - (at + done)) (n - done)) where
  pub next_some : 0 < m
  next_some = let end = stands.ends more listed in omega (arith, is, more)

  pub next_short : at + done + m ≤ end_of l i
  next_short = let end = stands.ends more listed in omega (arith, is)

  pub next_fits : done + m ≤ n
  next_fits = omega (arith, is, more)

  -- the bytes up to the next entry are those before it
  pub next_exact : done + m < n → done + m ≡ bytes_before l at (i + 1)
  next_exact less = let end = stands.ends more listed in let next = rules.next i in omega (arith, is, less, next)

-- all of it was
pub range_put : {S : Type 0} (store : StoreWords S) (at n i done : ℕ) (old now : ReaderState S) (p q : Output) → Rules old.index → at + n ≤ image_length old.index → IsAt old.index at n i done → done ≡ n → ReadsTo store at n i old now → PutsText old.index at done p.taken q.taken → q.faults ≡ p.faults
    → PutsRange store at n old now p q
range_put store at n i done old now p q rules inside stands all read puts faults =
    let P : ℕ → Type 0 = λ k. PutsText old.index at k p.taken q.taken in
    record {
      reads = reads_all store at n i old now (all_read old.index at n rules inside i done stands all) (only_read old.index at n rules inside i done stands all) read;
      puts = subst P all puts;
      faults = faults;
    }
