-- Connections that were served one after the other, by one chain.
use Rattle.std.proofs.Common.{◌≡◌, ◌≢◌, ◌∙◌, ◌⊎◌, ◌+◌, ◌++◌, ◌≤◌, ℕ, Bool, true, false, List, [], ◌∷◌, length, map, is_some, Option, Some, None, IfSome, IsTrue, Result, Ok, Err, refl, sym, ap, subst, inl, inr, arith}
use Rattle.std.proofs.lemmas.List.{length-append}
use Rattle.std.proofs.lemmas.List.Elements.{All-cons, All-nil}
use Rattle.std.specs.Prelude.{OnOk}
use Rattle.cache_store.specs.Shelves.{Shelf, Stocks}
use Rattle.cache_store.specs.Through.{Behind}
use Rattle.chunk_proxy.specs.Leaving.{KeepsBehind}
use Rattle.chunk_proxy.specs.Obtaining.{IsRightChunk}
use Rattle.chunk_proxy.specs.States.{is_sure, proxy_state, told_of}
use Rattle.chunk_proxy.specs.Talks.{proxy_protocol}
use Rattle.chunk_store.specs.Folders.{chunks}
use Rattle.chunk_store.specs.declared.id.DigestKind.{DigestKind}
use Rattle.chunk_store.specs.declared.store.Store.{Ghosts as StoreWords}
use Rattle.dir_store.specs.Names.{is_stranger}
use Rattle.dsy_base.specs.Counts.{Rose}
use Rattle.dsy_base.specs.Links.{LinkState, ListenState}
use Rattle.dsy_base.specs.Maps.{Map}
use Rattle.dsy_base.specs.declared.fault.IoFault.{IoFault}
use Rattle.dsy_base.specs.declared.fault.IoFault.TheVariants as io
use Rattle.http_serve.specs.Steps.{ServedState}
use Rattle.locked_proxy.specs.Chains.{maps_all_told, maps_told}
use Rattle.locked_proxy.specs.Replies.{EndsThrough}
use Rattle.locked_shelf.specs.Keepings.{HoldsFor, KeepsOpening}
use Rattle.locked_shelf.specs.Listening.{ServesAll, ServesSome}
use Rattle.locked_shelf.specs.declared.serve_all.AllServed.{AllServed}
use Rattle.locked_shelf.specs.declared.serve_all.AllServed.TheVariants as all
use Rattle.proxy_command.specs.ProxyServing.{ServesProxyTo, ServesThreads, Supply, Surely, told_state}
use Rattle.proxy_command.specs.Reaching.{IsProxied, chain_chunks}
use Rattle.chunk_proxy.specs.States.{ProxyFiles}
use Rattle.server_commands.specs.ChunkServing.{answer_of_sharing}
use Rattle.server_commands.specs.Serving.{Listens, RunsOut, answer_of_serving, heard}
use Rattle.store_chain.specs.Chains.{Chained}

-- ---- how serving ended

module _ (kind : DigestKind) (never : Bool) (l m : ListenState) (s : Supply) (stores replies : Bool) (asked : ℕ) where
  abbrev Begins : ServedState ProxyFiles
  Begins = told_state replies s.held asked

  pub served_by : (new : ServedState ProxyFiles) → (asks : ℕ) → new ≡ told_state replies s.left asks → (r : Result Unit IoFault) → OnOk r (m.coming ≡ Some []) → OnOk r (Listens (proxy_protocol kind (told_of s.holds)) l m Begins new) → (r ≡ Err io.Failed → Rose l.faults m.faults × Listens (proxy_protocol kind (told_of s.holds)) l m Begins new) → (r ≡ Err io.Memory → RunsOut (proxy_protocol kind (told_of s.holds)) l m Begins new)
      → (r ≡ Err io.Memory → m.faults ≡ l.faults) → ServesProxyTo kind (heard never l m) s (record { stores = stores; replies = replies }) true (answer_of_serving r)
  served_by new asks is (Ok u) end served failed lacking unfailed = (end, record { asked = asked; asks = asks; served = subst (λ t. Listens (proxy_protocol kind (told_of s.holds)) l m Begins t) is served })
  served_by new asks is (Err io.Failed) end served failed lacking unfailed =
      let so = failed refl in
      (so.0, record { asked = asked; asks = asks; served = subst (λ t. Listens (proxy_protocol kind (told_of s.holds)) l m Begins t) is so.1 })
  served_by new asks is (Err io.Memory) end served failed lacking unfailed = (record { asked = asked; asks = asks; served = subst (λ t. RunsOut (proxy_protocol kind (told_of s.holds)) l m Begins t) is (lacking refl) }, unfailed refl)

-- what the stores of the first chain hold, if there is one
pub told_chains : {S : Type 0} (holds : S → Option (Map (List ℕ))) (chains : List (Chained S)) → 1 ≤ length chains → maps_told holds chains ≡ maps_all_told (chain_chunks holds chains)
told_chains holds [] some = absurd (omega (arith, some))
told_chains holds (c ∷ more) some = refl

-- the same of connections that were served at the same time
module _ (kind : DigestKind) (never : Bool) (l m : ListenState) (s : Supply) (sure : Surely) (tells : Bool) (told : is_some l.coming ≡ true → tells ≡ true) (maps : Option (List (Map (List ℕ)))) (is : maps ≡ maps_all_told s.holds) where
  abbrev EndsBy : Option (List (Map (List ℕ))) → Bool → LinkState → Type 0
  EndsBy known = EndsThrough kind s.held known never sure.stores tells

  whole : ServesAll (EndsBy maps) l m → ServesThreads kind (heard never l m) s sure ServesAll
  whole served = record { tells = tells; told = told; served = subst (λ (o : Option (List (Map (List ℕ)))). ServesAll (EndsBy o) l m) is served }

  part : ServesSome (EndsBy maps) l m → ServesThreads kind (heard never l m) s sure ServesSome
  part served = record { tells = tells; told = told; served = subst (λ (o : Option (List (Map (List ℕ)))). ServesSome (EndsBy o) l m) is served }

  pub shared_to : (r : AllServed) → (r ≡ all.Ended → m.coming ≡ Some []) → (r ≢ all.Short → r ≢ all.Memory → ServesAll (EndsBy maps) l m) → ServesSome (EndsBy maps) l m → (r ≡ all.ListenFault → Rose l.faults m.faults) → ServesProxyTo kind (heard never l m) s sure false (answer_of_sharing r)
  shared_to all.Ended end served lacking cause = (end refl, whole (served (λ e. cc) (λ e. cc)))
  shared_to all.ListenFault end served lacking cause = (cause refl, whole (served (λ e. cc) (λ e. cc)))
  shared_to all.Memory end served lacking cause = part lacking
  shared_to all.Short end served lacking cause = part lacking

-- a cache before stores that hold what they held is told as it was
pub still_told : {F S : Type 0} (files : F → Option (Map (List ℕ))) (never : Bool) (store : StoreWords S) (old new : Behind F S) → map store.holds new.chain.stores ≡ map store.holds old.chain.stores
    → proxy_state files never store new ≡ told_state (is_sure never store (map store.holds old.chain.stores)) (files new.shelf.folder) new.chain.asks
still_told files never store old new same = ap (λ (holds : List (Option (Map (List ℕ)))). told_state (is_sure never store holds) (files new.shelf.folder) new.chain.asks) same

-- ---- what it leaves

module _ (kind : DigestKind) where
  id_holds : (id : List ℕ) (first now : Option (List ℕ)) → (now ≡ first) ⊎ ((b : List ℕ) × (now ≡ Some b) × IsRightChunk kind id b) → HoldsFor kind id first now
  id_holds id first now (inl same) = inl same
  id_holds id first now (inr new) = inr (new.0, new.1, record { named = new.2.named; few = new.2.few })

  files_kept : (x y : Option (Map (List ℕ))) → is_some y ≡ is_some x → IfSome x (λ m. IfSome y (λ n. (q : List ℕ) → (chunks n q ≡ chunks m q) ⊎ ((b : List ℕ) × (chunks n q ≡ Some b) × IsRightChunk kind q b)))
      → IfSome x (λ m. IfSome y (λ n. (q : List ℕ) → IsTrue (is_stranger q) → n q ≡ m q)) → IfSome x (λ first. KeepsOpening kind first y)
  files_kept None y told held strangers = tt
  files_kept (Some m) None told held strangers = absurd (cc)
  files_kept (Some m) (Some n) told held strangers = record { ids = λ id. id_holds id (chunks m id) (chunks n id) (held id); strangers = strangers }

  -- a cache to which right chunks were added
  pub opening_kept : (s t : Shelf) → Stocks (IsRightChunk kind) s t → IfSome s.files (λ first. KeepsOpening kind first t.files)
  opening_kept s t h = files_kept s.files t.files h.told h.chunks h.strangers

-- ---- one chain

alone_is : {X : Type 0} (items rest : List X) (c : X) → items ≡ rest ++ c ∷ [] → length items ≡ 1 → rest ≡ []
alone_is items [] c is one = refl
alone_is items (x ∷ rest) c is one =
    let many : length ((x ∷ rest) ++ c ∷ []) ≡ length (x ∷ rest) + 1 = length-append (x ∷ rest) (c ∷ []) in
    let size : length items ≡ length ((x ∷ rest) ++ c ∷ []) = ap length is in
    absurd (omega (arith, many, size, one))

module _ {F S : Type 0} (files : F → Option (Map (List ℕ))) (place : F → List ℕ) (faults : F → ℕ) (store : StoreWords S) where
  one_proxied : (old new : Behind F S) → old.shelf.kind ≡ old.chain.kind → place new.shelf.folder ≡ place old.shelf.folder → KeepsBehind files place faults store old new
      → IsProxied files place store true old.shelf new.shelf (old.chain ∷ []) (new.chain ∷ [])
  one_proxied old new same at_name keeps = record {
    named = at_name;
    kept = subst (λ (k : DigestKind). IfSome (files old.shelf.folder) (λ first. KeepsOpening k first (files new.shelf.folder))) (sym same) (opening_kept old.chain.kind _ _ keeps.stocks);
    places = All-cons (λ c. map store.place c.stores ≡ map store.place old.chain.stores) new.chain [] keeps.asks.keeps.places (All-nil (λ c. map store.place c.stores ≡ map store.place old.chain.stores));
    asks = λ t. (keeps.asks, tt);
  }

  -- the only chain was taken out, asked, and put back
  pub alone_proxied : (old new : Behind F S) (items rest after : List (Chained S)) → items ≡ rest ++ old.chain ∷ [] → length items ≡ 1 → after ≡ rest ++ new.chain ∷ [] → old.shelf.kind ≡ old.chain.kind → place new.shelf.folder ≡ place old.shelf.folder
      → KeepsBehind files place faults store old new → IsProxied files place store true old.shelf new.shelf items after
  alone_proxied old new items rest after is one back same at_name keeps =
      let none = alone_is items rest old.chain is one in
      let were : items ≡ old.chain ∷ [] = is ∙ ap (λ r. r ++ old.chain ∷ []) none in
      let are : after ≡ new.chain ∷ [] = back ∙ ap (λ r. r ++ new.chain ∷ []) none in
      subst (λ xs. IsProxied files place store true old.shelf new.shelf xs after) (sym were)
      (subst (λ ys. IsProxied files place store true old.shelf new.shelf (old.chain ∷ []) ys) (sym are) (one_proxied old new same at_name keeps))
