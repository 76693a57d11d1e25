use Rattle.std.proofs.Common.{◌≡◌, ◌≤◌, ℕ, List, take, map, Some}
use Rattle.std.specs.BTreeSet.{contains}
use Rattle.std.specs.Cmp.Lexicographic.{slice_cmp}
use Rattle.std.specs.List.{filter}
use Rattle.std.specs.Ordering.{nat_cmp}
use Rattle.std.specs.Set.{distinct_count, is_member}
use Rattle.std.specs.Str.{bytes_eq}
use Rattle.caibx_codec.specs.Asks.{IsListedHas}
use Rattle.dsy_base.specs.Maps.{Map}
use Rattle.store_chain.specs.Chains.{AsksNone, KeepsStores}
use Rattle.verify_tool.specs.Counts.{is_held, DeniesOthers, Reaches}
use Rattle.verify_tool.specs.Texts.{ids_of}
use Rattle.verify_tool.proofs.count.count_in_store.Given as goal

-- the ids before entry i were asked for
abbrev pub invariant-loop-i : goal.invariant-loop-i
invariant-loop-i g l =
    let front = take l.i (ids_of l.index) in
    let S = g.S.Store in
    let old = l.fn.chain.stores in
    record {
      asked : (q : List ℕ) → contains (slice_cmp nat_cmp) l.asked q ≡ is_member bytes_eq front q;
      value : (maps : List (Map (List ℕ))) → map S.holds old ≡ map Some maps → l.n ≡ distinct_count bytes_eq (filter (is_held maps) front);
      size : l.n ≤ distinct_count bytes_eq front;
      reaches : Reaches S.holds S.said S.queried S.faults l.index l.i old l.chain.stores;
      denies : DeniesOthers S.said l.index l.i l.n l.chain.stores;
      kept : KeepsStores S (IsListedHas l.index) old l.chain.stores;
      asks : AsksNone S.asked l.fn.chain l.chain;
    }
