use Rattle.std.proofs.Common.{◌<◌, ◌≤◌, ℕ, List, arith, inr, length, rules}
use Rattle.std.proofs.lemmas.Grind.{common_steps}
use Rattle.std.proofs.lemmas.List.Elements.{length_all_zip}
use Rattle.caibx_codec.specs.Asks.{IsListedHas}
use Rattle.caibx_codec.specs.Listing.{id_of}
use Rattle.chunk_store.specs.Said.{KeepsOf}
use Rattle.command_groups.proofs.Lacked.{group_fails_first}
use Rattle.command_groups.proofs.Seen.{groups_hold, groups_tell}
use Rattle.command_groups.proofs.Stand.{groups_many}
use Rattle.command_groups.proofs.Words.{group_words}
use Rattle.command_groups.specs.Asking.{with_retries}
use Rattle.command_groups.specs.Groups.{stores_of}
use Rattle.command_groups.specs.Lacking.{group_said}
use Rattle.command_groups.specs.Opened.{locations_in, told_files}
use Rattle.command_steps.proofs.Consulted.{only_read}
use Rattle.command_steps.proofs.Asking.{none_dialed}
use Rattle.command_steps.specs.Asking.{AsksOnly}
use Rattle.command_steps.specs.Sources.{storage}
use Rattle.store_commands.proofs.CountedGroups.{asked_after, consulted_after, first_before, known_after, located_after, standing_after}
use Rattle.store_commands.proofs.Counting.{counted_told, ended_by, others_denied}
use Rattle.store_commands.proofs.info.count.Goals as goal
use Rattle.store_commands.specs.Info.{asks_once}

pub open_groups-requires : goal.open_groups-requires
open_groups-requires g c =
    let some : 1 ≤ length c.args.groups.now = grind (arith, common_steps) in
    record { each = (c.requires.groups some).each }

pub with_kind-chain-requires : goal.with_kind-chain-requires
with_kind-chain-requires g c =
    let some : 1 ≤ length c.args.groups.now = grind (arith, common_steps) in
    let few = groups_many (locations_in g.F.Look.Look.place) c.args.groups.now c.args.retries c.in_ok-opened.opened.items c.in_ok-opened.ensures.located (c.requires.groups some) in
    search rules

pub close_groups-requires : goal.close_groups-requires
close_groups-requires g c =
    let look = g.F.Look.Look in
    let state = g.D.Dial.state in
    let e = c.args.retries in
    let l = c.args.index.now in
    let names = c.args.groups.now in
    let opened = c.in_ok-opened.ensures in
    let before = c.in_ok-opened.opened.items in
    let after = c.count_in_store-counted.new.chain.stores in
    let kept = rw c.with_kind-chain.ensures.value at c.count_in_store-counted.ensures.kept in
    let known = known_after look state e l names before after opened.located opened.fresh kept (g.F.Files.disk c.open_groups.new.files) opened.known in
    record { known = rw c.into_stores.ensures.value known }

pub first_store-store-requires : goal.first_store-store-requires
first_store-store-requires g c =
    let some : 1 ≤ length c.args.groups.now = grind (arith, common_steps) in
    record { few = (c.requires.groups some).few }

pub returns-in_err-opened-clause-kept : goal.returns-in_err-opened-clause-kept
returns-in_err-opened-clause-kept g c = only_read (g.F.Files.disk c.args.files.now) (g.F.Files.disk c.open_groups.new.files) (g.D.Dial.state c.args.dial.now) (stores_of c.args.groups.now) c.in_err-opened.ensures.kept

pub returns-in_err-opened-clause-asks : goal.returns-in_err-opened-clause-asks
returns-in_err-opened-clause-asks g c =
    let e = c.args.retries in
    let gets = with_retries e (λ id. 0) in
    let heads = with_retries e (asks_once c.args.index.now) in
    none_dialed (AsksOnly gets heads (IsListedHas c.args.index.now))
    (λ s. ((λ id. omega arith, λ id. omega arith), λ k d lt. absurd (omega (arith, lt)))) (stores_of c.args.groups.now) (g.D.Dial.state c.args.dial.now).ended

pub returns-in-Ok-clause-counted : goal.returns-in-Ok-clause-counted
returns-in-Ok-clause-counted g c =
    let some : 0 < length c.args.groups.now = grind (arith, common_steps) in
    let look = g.F.Look.Look in
    let state = g.D.Dial.state in
    let e = c.args.retries in
    let l = c.args.index.now in
    let names = c.args.groups.now in
    let opened = c.in_ok-opened.ensures in
    let before = c.in_ok-opened.opened.items in
    let after = c.count_in_store-counted.new.chain.stores in
    let kept = rw c.with_kind-chain.ensures.value at c.count_in_store-counted.ensures.kept in
    let at = g.F.Files.disk in
    let d = at c.args.files.now in
    let m = at c.open_groups.new.files in
    let k = state c.args.dial.now in
    let f = at c.close_groups.new.files in
    let j = state c.close_groups.new.dial in
    let closed = rw c.into_stores.ensures.value at c.close_groups.ensures.kept in
    let w = storage d k in
    let v = storage f j in
    let given = rw c.into_stores.ensures.value at c.close_groups.ensures.given in
    let stand = standing_after look state e l names before after opened.located opened.fresh kept d m k f j opened.kept closed opened.found given in
    let sure = look.never_fails in
    let first = first_before look state e l names before after opened.located opened.fresh kept in
    let value = rw c.with_kind-chain.ensures.value at c.in-Ok.ensures.value in (
      some,
      record {
        there = opened.there;
        size = c.in-Ok.ensures.size;
        denied = others_denied (locations_in look.place) (group_words look state).said (group_said w v) l c.in-Ok.n after names
            (located_after look state e l names before after opened.located opened.fresh kept) (λ n x lt. (stand n x lt).says) c.in-Ok.ensures.absent;
        counts = counted_told sure d.folders names l (told_files sure look.files) (group_words look state).holds before c.in-Ok.n (groups_tell sure look.files d.folders before names first opened.found) (groups_hold sure look.files before) value;
      },
    )

pub returns-in-StoreFault-clause-counted : goal.returns-in-StoreFault-clause-counted
returns-in-StoreFault-clause-counted g c =
    let look = g.F.Look.Look in
    let state = g.D.Dial.state in
    let e = c.args.retries in
    let l = c.args.index.now in
    let names = c.args.groups.now in
    let opened = c.in_ok-opened.ensures in
    let before = c.in_ok-opened.opened.items in
    let after = c.count_in_store-counted.new.chain.stores in
    let kept = rw c.with_kind-chain.ensures.value at c.count_in_store-counted.ensures.kept in
    let at = g.F.Files.disk in
    let d = at c.args.files.now in
    let m = at c.open_groups.new.files in
    let k = state c.args.dial.now in
    let f = at c.close_groups.new.files in
    let j = state c.close_groups.new.dial in
    let closed = rw c.into_stores.ensures.value at c.close_groups.ensures.kept in
    let w = storage d k in
    let v = storage f j in
    let store = group_words look state in
    let given = rw c.into_stores.ensures.value at c.close_groups.ensures.given in
    let stand = standing_after look state e l names before after opened.located opened.fresh kept d m k f j opened.kept closed opened.found given in
    let many = length_all_zip (λ a b. (q : List ℕ) → KeepsOf (store.said a) (store.said b) q) before after kept.says in
    let last = ended_by store.holds store.said store.queried store.faults l before after c.in-Err.fault c.in-StoreFault.group c.in-StoreFault.is many (rw c.with_kind-chain.ensures.value at c.in-Err.ensures.first) in
    let id = id_of l last.entry in
    let fails = group_fails_first (locations_in look.place) store.said store.faults e w v names (λ x. x.denied id) id (λ a b keeps h. keeps.denied h) c.in-StoreFault.group last.before after last.many
    (located_after look state e l names before after opened.located opened.fresh kept) stand last.fails in
    inr (opened.there, (last.entry, last.listed, (c.in-StoreFault.group, c.first_store-store.ensures.value, fails)))

pub returns-in-Ok-clause-kept : goal.returns-in-Ok-clause-kept
returns-in-Ok-clause-kept g c =
    let look = g.F.Look.Look in
    let state = g.D.Dial.state in
    let e = c.args.retries in
    let l = c.args.index.now in
    let names = c.args.groups.now in
    let opened = c.in_ok-opened.ensures in
    let before = c.in_ok-opened.opened.items in
    let after = c.count_in_store-counted.new.chain.stores in
    let kept = rw c.with_kind-chain.ensures.value at c.count_in_store-counted.ensures.kept in
    let at = g.F.Files.disk in
    let d = at c.args.files.now in
    let m = at c.open_groups.new.files in
    let k = state c.args.dial.now in
    let f = at c.close_groups.new.files in
    let j = state c.close_groups.new.dial in
    let closed = rw c.into_stores.ensures.value at c.close_groups.ensures.kept in
    consulted_after look state e l names before after opened.located opened.fresh kept d m k f j opened.kept closed

pub returns-in-Ok-clause-asks : goal.returns-in-Ok-clause-asks
returns-in-Ok-clause-asks g c =
    let look = g.F.Look.Look in
    let state = g.D.Dial.state in
    let e = c.args.retries in
    let l = c.args.index.now in
    let names = c.args.groups.now in
    let opened = c.in_ok-opened.ensures in
    let before = c.in_ok-opened.opened.items in
    let after = c.count_in_store-counted.new.chain.stores in
    let kept = rw c.with_kind-chain.ensures.value at c.count_in_store-counted.ensures.kept in
    let asked = rw c.with_kind-chain.ensures.value at c.count_in_store-counted.ensures.asks.stores in
    let queried = rw c.with_kind-chain.ensures.value at c.count_in_store-counted.ensures.queries in
    asked_after look state e l names before after opened.located opened.fresh kept (state c.args.dial.now).ended (state c.close_groups.new.dial).ended opened.unused asked queried (rw c.into_stores.ensures.value at c.close_groups.ensures.ended)

pub returns-in-StoreFault-clause-kept : goal.returns-in-StoreFault-clause-kept
returns-in-StoreFault-clause-kept g c =
    let look = g.F.Look.Look in
    let state = g.D.Dial.state in
    let e = c.args.retries in
    let l = c.args.index.now in
    let names = c.args.groups.now in
    let opened = c.in_ok-opened.ensures in
    let before = c.in_ok-opened.opened.items in
    let after = c.count_in_store-counted.new.chain.stores in
    let kept = rw c.with_kind-chain.ensures.value at c.count_in_store-counted.ensures.kept in
    let at = g.F.Files.disk in
    let d = at c.args.files.now in
    let m = at c.open_groups.new.files in
    let k = state c.args.dial.now in
    let f = at c.close_groups.new.files in
    let j = state c.close_groups.new.dial in
    let closed = rw c.into_stores.ensures.value at c.close_groups.ensures.kept in
    consulted_after look state e l names before after opened.located opened.fresh kept d m k f j opened.kept closed

pub returns-in-StoreFault-clause-asks : goal.returns-in-StoreFault-clause-asks
returns-in-StoreFault-clause-asks g c =
    let look = g.F.Look.Look in
    let state = g.D.Dial.state in
    let e = c.args.retries in
    let l = c.args.index.now in
    let names = c.args.groups.now in
    let opened = c.in_ok-opened.ensures in
    let before = c.in_ok-opened.opened.items in
    let after = c.count_in_store-counted.new.chain.stores in
    let kept = rw c.with_kind-chain.ensures.value at c.count_in_store-counted.ensures.kept in
    let asked = rw c.with_kind-chain.ensures.value at c.count_in_store-counted.ensures.asks.stores in
    let queried = rw c.with_kind-chain.ensures.value at c.count_in_store-counted.ensures.queries in
    asked_after look state e l names before after opened.located opened.fresh kept (state c.args.dial.now).ended (state c.close_groups.new.dial).ended opened.unused asked queried (rw c.into_stores.ensures.value at c.close_groups.ensures.ended)

pub returns-in-Memory-clause-kept : goal.returns-in-Memory-clause-kept
returns-in-Memory-clause-kept g c =
    let look = g.F.Look.Look in
    let state = g.D.Dial.state in
    let e = c.args.retries in
    let l = c.args.index.now in
    let names = c.args.groups.now in
    let opened = c.in_ok-opened.ensures in
    let before = c.in_ok-opened.opened.items in
    let after = c.count_in_store-counted.new.chain.stores in
    let kept = rw c.with_kind-chain.ensures.value at c.count_in_store-counted.ensures.kept in
    let at = g.F.Files.disk in
    let d = at c.args.files.now in
    let m = at c.open_groups.new.files in
    let k = state c.args.dial.now in
    let f = at c.close_groups.new.files in
    let j = state c.close_groups.new.dial in
    let closed = rw c.into_stores.ensures.value at c.close_groups.ensures.kept in
    consulted_after look state e l names before after opened.located opened.fresh kept d m k f j opened.kept closed

pub returns-in-Memory-clause-asks : goal.returns-in-Memory-clause-asks
returns-in-Memory-clause-asks g c =
    let look = g.F.Look.Look in
    let state = g.D.Dial.state in
    let e = c.args.retries in
    let l = c.args.index.now in
    let names = c.args.groups.now in
    let opened = c.in_ok-opened.ensures in
    let before = c.in_ok-opened.opened.items in
    let after = c.count_in_store-counted.new.chain.stores in
    let kept = rw c.with_kind-chain.ensures.value at c.count_in_store-counted.ensures.kept in
    let asked = rw c.with_kind-chain.ensures.value at c.count_in_store-counted.ensures.asks.stores in
    let queried = rw c.with_kind-chain.ensures.value at c.count_in_store-counted.ensures.queries in
    asked_after look state e l names before after opened.located opened.fresh kept (state c.args.dial.now).ended (state c.close_groups.new.dial).ended opened.unused asked queried (rw c.into_stores.ensures.value at c.close_groups.ensures.ended)
