-- The steps of a cache before stores, by how a chunk was obtained.
use Rattle.std.proofs.Common.{◌≡◌, ◌≢◌, ℕ, List, length, map, take, Bool, true, false, not, ◌||◌, nat_le, Option, Some, None, IsSome, IsTrue, Result, Ok, Err, refl, sym, ap, subst, ◌∙◌, inl, inr, arith}
use Rattle.std.specs.Prelude.{IfOk, IfSome}
use Rattle.std.specs.Option.{option_map}
use Rattle.cache_store.specs.Shelves.{Shelf, shelf_of}
use Rattle.cache_store.specs.Through.{AddedBeside, Behind, FromShelf, FromStores, size_got}
use Rattle.cache_store.specs.declared.cached.Got.{Got}
use Rattle.cache_store.specs.declared.cached.Kept.{Kept}
use Rattle.cache_store.specs.declared.cached.Kept.TheVariants as kept
use Rattle.chunk_proxy.proofs.Held.{all_damaged, all_lack, first_gives, held_given, held_none}
use Rattle.chunk_proxy.proofs.Stepped.{Stayed, Went, lingers, steps, told}
use Rattle.chunk_proxy.proofs.Sure.{Parts, all_quiet, alone, few, no_rise, parts, told_each}
use Rattle.chunk_proxy.specs.Answers.{AnswersThrough, LacksThrough, chunk_given, given_or, given_by_cache, given_by_stores, proxy_after, proxy_answer, sought}
use Rattle.chunk_proxy.specs.Obtaining.{ObtainsSo, SeeksChunk, TellsChunk, TellsOf, any_size}
use Rattle.chunk_proxy.specs.States.{ProxyFiles, is_sure, maps_in, proxy_state, told_files}
use Rattle.chunk_server.proofs.Stepped.{none_by}
use Rattle.chunk_server.specs.Answers.{Answer, bare, with_chunk, with_length}
use Rattle.chunk_server.specs.Reads.{answer_by, asked_by}
use Rattle.chunk_server.specs.Shelves.{AreTemporariesApart}
use Rattle.chunk_server.specs.declared.chunk_file.ReadMethod.{ReadMethod}
use Rattle.chunk_server.specs.declared.chunk_file.ReadMethod.TheVariants as method
use Rattle.chunk_store.specs.Folders.{chunks}
use Rattle.chunk_store.specs.Paths.{path_of}
use Rattle.chunk_store.specs.declared.id.ChunkId.{ChunkId}
use Rattle.chunk_store.specs.declared.id.DigestKind.{DigestKind}
use Rattle.chunk_store.specs.declared.store.Store.{Ghosts as StoreWords}
use Rattle.dir_store.specs.Names.{is_temporary}
use Rattle.dsy_base.proofs.Counts.{at_other}
use Rattle.dsy_base.specs.Counts.{Rose}
use Rattle.dsy_base.specs.Folders.{put_in, temporary_of}
use Rattle.dsy_base.specs.Maps.{Map, at_name}
use Rattle.http_serve.specs.Steps.{ServedState}
use Rattle.store_chain.specs.Giving.{Gives, Obtains}
use Rattle.store_chain.specs.Queries.{FillsQuery, IsWanted}
use Rattle.store_chain.specs.declared.refused.Refused.{Refused}
use Rattle.store_chain.specs.declared.refused.Refused.TheVariants as refused

-- ---- the step of a request for a chunk, by what the cache and the stores hold

module _ (kind : DigestKind) (maps : List (Map (List ℕ))) (id : ChunkId) where
  answered_by : (m : ReadMethod) (f : ProxyFiles) (o : Option (List ℕ)) → chunk_given kind maps f id.0 ≡ o → answer_by m o ≡ proxy_answer kind maps f (asked_by m id)
  unfolding proxy_answer
  answered_by method.Get f o e = ap with_chunk (sym e)
  answered_by method.Head f o e = ap with_length (sym e)

  leaves_by : (m : ReadMethod) (f : ProxyFiles) → proxy_after kind maps f (asked_by m id) ≡ sought (given_by_cache kind f id.0) (given_by_stores kind maps id.0) f id.0
  unfolding proxy_after
  leaves_by method.Get f = refl
  leaves_by method.Head f = refl

  leaves_so : (m : ReadMethod) (f : ProxyFiles) (a b : Option (List ℕ)) → given_by_cache kind f id.0 ≡ a → given_by_stores kind maps id.0 ≡ b
      → proxy_after kind maps f (asked_by m id) ≡ sought a b f id.0
  leaves_so m f a b p q = leaves_by m f ∙ ap (λ o. sought o (given_by_stores kind maps id.0) f id.0) p ∙ ap (λ o. sought a o f id.0) q

  goes : (m : ReadMethod) (f : ProxyFiles) (a b : Option (List ℕ)) (r : Answer) (left : Option (Map (List ℕ))) (count : ℕ) → given_by_cache kind f id.0 ≡ a → given_by_stores kind maps id.0 ≡ b
      → r ≡ answer_by m (given_or a b) → left ≡ Some (sought a b f id.0).cache → count ≡ (sought a b f id.0).asks → Went kind maps (asked_by m id) r f left count
  goes m f a b r left count p q is cache asks =
      let so = sym (leaves_so m f a b p q) in
      record {
        answer = is ∙ answered_by m f (given_or a b) (ap (λ o. given_or o (given_by_stores kind maps id.0)) p ∙ ap (λ o. given_or a o) q);
        cache = cache ∙ ap (λ (g : ProxyFiles). Some g.cache) so;
        asks = asks ∙ ap (λ (g : ProxyFiles). g.asks) so;
      }

-- ---- over a cache and stores

module _ {F S : Type 0} (files : F → Option (Map (List ℕ))) (place : F → List ℕ) (faults : F → ℕ) (never_fails : Bool) (store : StoreWords S)
    (calm : (f : F) → IsTrue never_fails → faults f ≡ 0) (tells : (s : S) → IsTrue store.tells → IsSome (store.holds s)) (sure : (s : S) → IsTrue store.never_fails → store.faults s ≡ 0)
    (named : (q : List ℕ) → IsTrue (is_temporary (temporary_of q))) (id : ChunkId) (old new : Behind F S) where
  abbrev kind : DigestKind
  kind = old.chain.kind

  abbrev maps : List (Map (List ℕ))
  maps = maps_in store old

  abbrev before : Shelf
  before = shelf_of files place faults old.shelf

  abbrev after : Shelf
  after = shelf_of files place faults new.shelf

  abbrev Surely : Bool → Type 0
  Surely t = is_sure never_fails store (map store.holds old.chain.stores) ≡ t

  abbrev Shelves : Result Got Refused → List ℕ → Type 0
  Shelves r out = FromShelf files place faults (any_size kind id) old new r out

  abbrev Stores : Result Got Refused → List ℕ → Type 0
  Stores r out = FromStores files place faults store.holds store.members store.said store.faults store.may_lack_memory store.asked store.queried (any_size kind id) old new r out

  in_parts : Surely true → Parts never_fails store.tells store.never_fails (not store.may_lack_memory || nat_le (length (map store.holds old.chain.stores)) 1)
  in_parts so = parts _ _ _ _ so

  module _ (so : Surely true) (m : Map (List ℕ)) (is : files old.shelf.folder ≡ Some m) where
    never : Rose before.faults after.faults → ⊥
    never rose = no_rise before.faults after.faults (calm old.shelf.folder (in_parts so).first) (calm new.shelf.folder (in_parts so).first) rose

    -- the cache doesn't give it where the stores were asked
    not_cached : (r : Result Got Refused) (out : List ℕ) → Stores r out → given_by_cache kind (told m old.chain.asks) id.0 ≡ None
    not_cached r out q =
        let unfound : Gives (any_size kind id) (chunks m) → Rose before.faults after.faults = subst (λ (o : Option (Map (List ℕ))). IfSome (option_map chunks o) (λ n. Gives (any_size kind id) n → Rose before.faults after.faults)) is q.unfound in
        held_none kind id (chunks m id.0) (λ b held wanted. never (unfound (b, held, wanted)))

    obtains : (r : Result Got Refused) (out : List ℕ) → Stores r out → Obtains store.may_lack_memory (any_size kind id) maps (size_got r) out
    obtains r out q =
        q.exactly maps (told_each store.holds (λ s. tells s (in_parts so).second) old.chain.stores) (all_quiet store.faults (λ s. sure s (in_parts so).third) old.chain.stores new.chain.stores)

    given : (got : Got) (out : List ℕ) → IsWanted (any_size kind id) (take got.size out) → Stores (Ok got) out → given_by_stores kind maps id.0 ≡ Some (take got.size out)
    given got out wanted q =
        let first = obtains (Ok got) out q in
        first_gives kind id store.may_lack_memory (take got.size out) wanted first.0 maps
        (λ l. omega (arith, few (map store.holds old.chain.stores), alone store.may_lack_memory (length (map store.holds old.chain.stores)) (in_parts so).fourth l)) first.1

    -- what is left of the cache once the stores' chunk was added
    added : (b : List ℕ) (k : Kept) → k ≢ kept.Memory → AddedBeside None id.0 b k before after → files new.shelf.folder ≡ Some (put_in m (path_of id.0) b)
    added b kept.Yes not put = put ∙ ap (option_map (λ n. put_in n (path_of id.0) b)) is
    added b kept.Failed not left = absurd (never left.1)
    added b kept.Memory not left = absurd (not refl)

    module _ (mth : ReadMethod) (r : Answer) where
      abbrev Goes : Type 0
      Goes = Went kind maps (asked_by mth id) r (told m old.chain.asks) (files new.shelf.folder) new.chain.asks

      by_cache : (got : Got) (out : List ℕ) → IsWanted (any_size kind id) (take got.size out) → Shelves (Ok got) out → r ≡ answer_by mth (Some (take got.size out)) → Goes
      by_cache got out wanted q reply =
          let held : chunks m id.0 ≡ Some (take got.size out) = subst (λ (o : Option (Map (List ℕ))). IfSome (option_map chunks o) (λ n. n id.0 ≡ Some (take got.size out))) is q.answer.2 in
          goes kind maps id mth (told m old.chain.asks) (Some (take got.size out)) (given_by_stores kind maps id.0) r _ _
          (held_given kind id (chunks m id.0) (take got.size out) held wanted) refl reply (q.shelf.files ∙ is) (ap (λ c. c.asks) q.chain)

      by_stores : (got : Got) (out : List ℕ) → IsWanted (any_size kind id) (take got.size out) → Stores (Ok got) out → got.kept ≢ kept.Memory
          → r ≡ answer_by mth (Some (take got.size out)) → Goes
      by_stores got out wanted q not reply =
          goes kind maps id mth (told m old.chain.asks) None (Some (take got.size out)) r _ _ (not_cached (Ok got) out q) (given got out wanted q) reply
          (added (take got.size out) got.kept not q.added.1) q.asks.calls

      by_none : (x : Refused) (out : List ℕ) → Stores (Err x) out → given_by_stores kind maps id.0 ≡ None → r ≡ bare 404 → Goes
      by_none x out q none reply =
          goes kind maps id mth (told m old.chain.asks) None None r _ _ (not_cached (Err x) out q) none (reply ∙ none_by mth) (q.added ∙ is) q.asks.calls

      pub went : TellsChunk files place faults store mth id old new r → Goes
      went t = go t.obtained t.fills t.ends t.tells where
        go : (x : Result Got Refused) → IfOk x (λ got. FillsQuery (any_size kind id) got.size t.out) → ObtainsSo files place faults store id old new x t.out → TellsOf mth x t.out r → Goes
        go (Ok got) fills (inl q) tells = by_cache got t.out fills.wanted q tells.1
        go (Ok got) fills (inr q) tells = by_stores got t.out fills.wanted q tells.0 tells.1
        go (Err refused.Missing) fills (inl q) tells = absurd (let e = q.answer in cc)
        go (Err refused.Missing) fills (inr q) tells = by_none refused.Missing t.out q (all_lack kind id maps (obtains (Err refused.Missing) t.out q)) tells
        go (Err (refused.Damaged s x)) fills (inl q) tells = absurd (let e = q.answer in cc)
        go (Err (refused.Damaged s x)) fills (inr q) tells = by_none (refused.Damaged s x) t.out q (all_damaged kind id x s.number maps (obtains (Err (refused.Damaged s x)) t.out q).1) tells
        go (Err (refused.StoreFault s)) fills (inl q) tells = absurd (let e = q.answer in cc)
        go (Err (refused.StoreFault s)) fills (inr q) tells = absurd (obtains (Err (refused.StoreFault s)) t.out q)
        go (Err refused.Memory) fills ends tells = absurd tells

    -- ---- where no reply is sent

    false_true : false ≡ true → ⊥
    false_true e = cc

    temporary_alone : (x : Option (List ℕ)) → AreTemporariesApart m (at_name m (temporary_of (path_of id.0)) x)
    temporary_alone x q h = at_other m (temporary_of (path_of id.0)) x q (λ e. false_true (sym h ∙ ap is_temporary e ∙ named (path_of id.0)))

    module _ (mth : ReadMethod) where
      abbrev Stays : Type 0
      Stays = Stayed kind maps (asked_by mth id) (told m old.chain.asks) (files new.shelf.folder)

      same : files new.shelf.folder ≡ files old.shelf.folder → Stays
      same e = record { now = m; is = e ∙ is; alike = inl (λ q h. refl) }

      stays_filled : (got : Got) (out : List ℕ) → IsWanted (any_size kind id) (take got.size out) → Stores (Ok got) out → (k : Kept)
          → AddedBeside None id.0 (take got.size out) k before after → Stays
      stays_filled got out wanted q kept.Yes put =
          let b : List ℕ = take got.size out in
          let so = leaves_so kind maps id mth (told m old.chain.asks) None (Some b) (not_cached (Ok got) out q) (given got out wanted q) in
          record {
            now = put_in m (path_of id.0) b;
            is = put ∙ ap (option_map (λ n. put_in n (path_of id.0) b)) is;
            alike = inr (λ x h. sym (ap (λ (g : ProxyFiles). g.cache x) so));
          }
      stays_filled got out wanted q kept.Failed left = absurd (never left.1)
      stays_filled got out wanted q kept.Memory left = record {
        now = at_name m (temporary_of (path_of id.0)) left.0;
        is = left.1 ∙ ap (option_map (λ n. at_name n (temporary_of (path_of id.0)) left.0)) is;
        alike = inl (temporary_alone left.0);
      }

      stayed_by : (r : Result Got Refused) (out : List ℕ) → IfOk r (λ got. FillsQuery (any_size kind id) got.size out) → ObtainsSo files place faults store id old new r out → Stays
      stayed_by (Ok got) out fills (inl q) = same q.shelf.files
      stayed_by (Ok got) out fills (inr q) = stays_filled got out fills.wanted q got.kept q.added.1
      stayed_by (Err x) out fills (inl q) = same q.shelf.files
      stayed_by (Err x) out fills (inr q) = same q.added

      pub stayed : SeeksChunk files place faults store id old new → Stays
      stayed (inl e) = same (ap (λ (b : Behind F S). files b.shelf.folder) e)
      stayed (inr h) = stayed_by h.0 h.1 h.2 h.3

  -- ---- the steps

  module _ (mth : ReadMethod) (held : map store.holds new.chain.stores ≡ map store.holds old.chain.stores) where
    abbrev now : List (Option (Map (List ℕ))) → ServedState ProxyFiles
    now holds = record { files = told_files (is_sure never_fails store holds) (files new.shelf.folder) new.chain.asks; faults = 0 }

    pub answered : (r : Answer) → TellsChunk files place faults store mth id old new r
        → IfSome (proxy_state files never_fails store old).files (λ _. AnswersThrough kind maps (proxy_state files never_fails store old) (asked_by mth id) r (proxy_state files never_fails store new))
    answered r t =
        subst (λ (hs : List (Option (Map (List ℕ)))). IfSome (proxy_state files never_fails store old).files (λ _. AnswersThrough kind maps (proxy_state files never_fails store old) (asked_by mth id) r (now hs))) (sym held)
        (steps kind maps (asked_by mth id) (files old.shelf.folder) (files new.shelf.folder) old.chain.asks new.chain.asks r (is_sure never_fails store (map store.holds old.chain.stores)) (files old.shelf.folder) refl (λ so m is. went so m is mth r t))

    pub lacking : SeeksChunk files place faults store id old new
        → IfSome (proxy_state files never_fails store old).files (λ _. LacksThrough kind maps (proxy_state files never_fails store old) (asked_by mth id) (proxy_state files never_fails store new))
    lacking t =
        subst (λ (hs : List (Option (Map (List ℕ)))). IfSome (proxy_state files never_fails store old).files (λ _. LacksThrough kind maps (proxy_state files never_fails store old) (asked_by mth id) (now hs))) (sym held)
        (lingers kind maps (asked_by mth id) (files old.shelf.folder) (files new.shelf.folder) old.chain.asks new.chain.asks (is_sure never_fails store (map store.holds old.chain.stores)) (files old.shelf.folder) refl (λ so m is. stayed so m is mth t))
