-- The cache and the stores of a server, when they are given back. A store is a server.
use Rattle.std.proofs.Common.{◌≡◌, ◌∙◌, ℕ, ◌≤◌, Bool, List, [], ◌∷◌, All, length, map, Some, IfSome, IsTrue, Result, sym, ap, subst, arith, slice_index_or}
use Rattle.std.specs.List.{AllZip}
use Rattle.std.specs.Map.{count_at}
use Rattle.std.specs.Option.{option_map}
use Rattle.cache_store.specs.Shelves.{Shelf}
use Rattle.chunk_proxy.specs.Leaving.{AsksForChunks, IsChunkGet}
use Rattle.chunk_store.specs.declared.id.DigestKind.{DigestKind}
use Rattle.chunk_store.specs.declared.store.Store.{Ghosts as StoreWords}
use Rattle.command_groups.proofs.Asked.{groups_asked}
use Rattle.command_groups.proofs.Folders.{put_twice, was_put}
use Rattle.command_groups.proofs.LentChains.{chains_consult}
use Rattle.command_groups.proofs.Stand.{fresh_tries, groups_stand_still, groups_try_still}
use Rattle.command_groups.proofs.Words.{group_words}
use Rattle.command_groups.specs.Chains.{CanGiveChain, IsChainGiven, chain_groups}
use Rattle.command_groups.specs.Groups.{stores_of}
use Rattle.command_groups.specs.Opened.{AreUnused, IsFresh}
use Rattle.command_outcome.specs.declared.outcome.Outcome.{Outcome}
use Rattle.command_steps.proofs.Asking.{none_more}
use Rattle.command_steps.proofs.Cached.{given_adds}
use Rattle.command_steps.specs.AnyStores.{IsKnown, source_faults}
use Rattle.command_steps.specs.Cache.{CacheGiven, with_cache}
use Rattle.command_steps.specs.Sources.{ConsultsStores, Storage, storage}
use Rattle.command_steps.specs.Turns.{GivenInTurn}
use Rattle.command_steps.specs.declared.any_store.AnyStore.{AnyStore}
use Rattle.command_words.specs.declared.command.Location.{Location}
use Rattle.command_worlds.specs.Worlds.{Adds}
use Rattle.dsy_base.specs.Counts.{raised}
use Rattle.dsy_base.specs.Disk.{Disk}
use Rattle.dsy_base.specs.Links.{DialState}
use Rattle.dsy_base.specs.Maps.{Map, at_name}
use Rattle.dsy_base.specs.declared.look.Look.{Ghosts as LookWords}
use Rattle.locked_proxy.specs.Chains.{chain_places}
use Rattle.locked_shelf.specs.Keepings.{KeepsOpening}
use Rattle.proxy_command.specs.ProxyServing.{GroupsGet, IsServedFrom, LookTypes, ProxyServed}
use Rattle.proxy_command.specs.Reaching.{HasReached}
use Rattle.server_commands.specs.Serving.{Heard}
use Rattle.store_chain.specs.Chains.{Chained}
use Rattle.store_group.specs.Groups.{Grouped}

module _ {L D K : Type 0} (look : LookWords L) (state : D → DialState) where
  abbrev Words : StoreWords (Grouped (AnyStore L D K))
  Words = group_words look state

  abbrev Lies : List (Chained (Grouped (AnyStore L D K))) → Chained (Grouped (AnyStore L D K)) → Type 0
  Lies before c = map Words.place c.stores ≡ chain_places Words.place before

  -- chains that were asked lie where they lay
  pub located_after : (groups : List (List Location)) (before after : List (Chained (Grouped (AnyStore L D K)))) → 1 ≤ length before → All (λ c. chain_groups look c ≡ groups) before → All (Lies before) after → All (λ c. chain_groups look c ≡ groups) after
  located_after groups [] after some at lie = absurd (omega (arith, some))
  located_after groups (f ∷ more) after some at lie = λ n c lt. groups_stand_still look.place f.stores (slice_index_or after n c).stores (lie n c lt) ∙ at 0 f (omega arith)

  pub given_after : (d : Disk) (groups : List (List Location)) (before after : List (Chained (Grouped (AnyStore L D K)))) → 1 ≤ length before → All (λ c. chain_groups look c ≡ groups) before → All (Lies before) after → All (CanGiveChain look d) before → All (CanGiveChain look d) after
  given_after d groups [] after some at lie given = absurd (omega (arith, some))
  given_after d groups (f ∷ more) after some at lie given = λ n c lt.
      subst (λ (l : List (List Location)). All (IsKnown d.folder_counts) (stores_of l)) (at 0 f (omega arith) ∙ sym (located_after groups (f ∷ more) after some at lie n c lt)) (given 0 f (omega arith))

  -- ---- how servers were asked

  chain_asked : (groups : List (List Location)) (again : ℕ) (c d : Chained (Grouped (AnyStore L D K))) (w v : Storage) → AsksForChunks Words c.stores d.stores → All (AreUnused state) c.stores → All (IsFresh (source_faults look.faults state) again) c.stores
      → chain_groups look c ≡ groups → IsChainGiven look state d w v → GroupsGet again groups w.dial.ended v.dial.ended
  chain_asked groups again c d w v asks unused fresh at given =
      let stands = groups_stand_still look.place c.stores d.stores asks.keeps.places in (
        asks.times,
        groups_asked look.place state again asks.times (λ id. 0) IsChunkGet c.stores d.stores groups w.dial.ended v.dial.ended unused
            (groups_try_still look.place again c.stores d.stores asks.keeps.places (fresh_tries (source_faults look.faults state) again c.stores fresh)) stands
            asks.gets (none_more Words.queried c.stores d.stores asks.heads) asks.keeps.sends (stands ∙ at) given.ended,
      )

  alone_asked : (groups : List (List Location)) (again : ℕ) (before after : List (Chained (Grouped (AnyStore L D K)))) (w v : Storage) → 1 ≤ length before → length before ≤ 1 → AllZip (λ b c. AsksForChunks Words b.stores c.stores) before after
      → All (λ c. All (AreUnused state) c.stores) before → All (λ c. All (IsFresh (source_faults look.faults state) again) c.stores) before → All (λ c. chain_groups look c ≡ groups) before → GivenInTurn (IsChainGiven look state) after w v
      → GroupsGet again groups w.dial.ended v.dial.ended
  alone_asked groups again [] after w v some few asks unused fresh at turn = absurd (omega (arith, some))
  alone_asked groups again (c ∷ e ∷ more) after w v some few asks unused fresh at turn = absurd (omega (arith, few))
  alone_asked groups again (c ∷ []) [] w v some few asks unused fresh at turn = absurd asks
  alone_asked groups again (c ∷ []) (d ∷ f ∷ rest) w v some few asks unused fresh at turn = absurd asks.1
  alone_asked groups again (c ∷ []) (d ∷ []) w v some few asks unused fresh at (u, same, given) =
      let from : IsChainGiven look state d w v = subst (λ (s : Storage). IsChainGiven look state d s v) same given in
      chain_asked groups again c d w v asks.0 (unused 0 c (omega arith)) (fresh 0 c (omega arith)) (at 0 c (omega arith)) from

  -- ---- all of it

  module _ (groups : List (List Location)) (again : ℕ) (cache : List ℕ) (kind : DigestKind) (most : ℕ) (s t : Shelf) (d m e : Disk) (k j : DialState) (before after : List (Chained (Grouped (AnyStore L D K))))
      (reached : HasReached look state Words groups again cache kind most d s before) (named : t.place ≡ s.place) (lie : All (Lies before) after) (gives : CacheGiven (Some t) d m) (turn : GivenInTurn (IsChainGiven look state) after (storage m k) (storage e j)) where
    abbrev w : Disk
    w = with_cache (Some s) d

    closes : ConsultsStores (stores_of groups) (storage m k) (storage e j)
    closes = chains_consult look state groups after (storage m k) (storage e j) (located_after groups before after reached.some reached.located lie) turn

    t_is : t.place ≡ cache
    t_is = named ∙ reached.named

    gave : Adds d m
    gave = given_adds (Some t) d m gives

    back : e.folders ≡ option_map (λ (x : Map (Map (List ℕ))). at_name x cache t.files) w.folders
    back = closes.0.disk.folders ∙ gives.0 ∙ ap (λ (q : List ℕ). option_map (λ (x : Map (Map (List ℕ))). at_name x q t.files) d.folders) named ∙ put_twice d.folders s.place s.files t.files
        ∙ ap (λ (q : List ℕ). option_map (λ (x : Map (Map (List ℕ))). at_name x q t.files) w.folders) reached.named

    counted_at : raised (count_at d.folder_counts t.place) t.faults ≤ count_at e.folder_counts t.place
    counted_at =
        let added = gives.1.folder_counts.added in
        let more = closes.0.disk.folder_counts t.place in
        omega (arith, added, more)

    pub proxy_served : (looks : LookTypes) (h : Heard) (in_turn : Bool) (r : Result Unit Outcome) → IsServedFrom looks h groups s.kind in_turn w.folders s.files t.files r → IfSome s.files (λ first. KeepsOpening s.kind first t.files) → (IsTrue in_turn → most ≡ 1) → (IsTrue in_turn → AllZip (λ b c. AsksForChunks Words b.stores c.stores) before after)
        → ProxyServed looks h groups again cache kind in_turn (storage w k) r (storage e j)
    proxy_served looks h in_turn r served kept one asks = record {
      held = s.files;
      was = subst (λ (q : List ℕ). IfSome w.folders (λ x. x q ≡ s.files)) reached.named (was_put d.folders s.place s.files);
      left = record { files = t.files; faults = t.faults };
      kept = subst (λ (n : DigestKind). IfSome s.files (λ first. KeepsOpening n first t.files)) reached.digest kept;
      back = back;
      counted = subst (λ (q : List ℕ). raised (count_at d.folder_counts q) t.faults ≤ count_at e.folder_counts q) t_is counted_at;
      serving = subst (λ (n : DigestKind). IsServedFrom looks h groups n in_turn w.folders s.files t.files r) reached.digest served;
      adds = record {
        files = closes.0.disk.files ∙ gave.files;
        counts = λ q. omega (arith, gave.counts q, closes.0.disk.counts q);
        folder_counts = λ q. omega (arith, gave.folder_counts q, closes.0.disk.folder_counts q);
        known = λ q is. closes.0.disk.known q (gave.known q is);
        folder_known = λ q is. closes.0.disk.folder_known q (gave.folder_known q is);
      };
      dials = closes.0.dial;
      undialed = closes.1;
      asks = λ yes.
          let n = one yes in
          alone_asked groups again before after (storage m k) (storage e j) reached.some (omega (arith, reached.few, n)) (asks yes) reached.unused reached.fresh reached.located turn;
    }
