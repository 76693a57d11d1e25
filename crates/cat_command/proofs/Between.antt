-- What was put between two worlds, where the stores were opened in the first and given back in the second.
use Rattle.std.proofs.Common.{◌≡◌, ℕ, zero, suc, ◌+◌, ◌<◌, Bool, List, [], ◌∷◌, length, map, All, slice_index, slice_index_or, Option, Some, None, IfSome, Result, Ok, Err, refl, sym, subst, ◌∙◌, arith, inr}
use Rattle.std.proofs.lemmas.List.Elements.{All-tail}
use Rattle.std.specs.List.{Any}
use Rattle.caibx_codec.specs.Listing.{Listing, Rules, id_of, kind_of, size_of}
use Rattle.cat_command.specs.Cat.{EndsRange, HasShownEntry, IsGivenEntry, PutsBefore, PutsFirst, IfFolders}
use Rattle.cat_command.specs.Putting.{EndsGiving, PutsGiven, PutsUntil, bytes_before, chunk_at}
use Rattle.chunk_store.proofs.Members.{told_alone}
use Rattle.chunk_store.specs.Folders.{chunks}
use Rattle.chunk_store.specs.Giving.{IsChunk}
use Rattle.chunk_store.specs.declared.id.ChunkId.{ChunkId}
use Rattle.chunk_store.specs.declared.id.DigestKind.{DigestKind}
use Rattle.chunk_store.specs.declared.store.Store.{Ghosts as StoreWords}
use Rattle.command_outcome.specs.declared.outcome.Outcome.{Outcome}
use Rattle.command_outcome.specs.declared.outcome.Outcome.TheVariants as ends
use Rattle.command_groups.proofs.Lacked.{groups_lack, have_lacked_in, lacks_numbered}
use Rattle.command_groups.proofs.Standing.{GroupStands}
use Rattle.command_groups.specs.Groups.{first_store, group_files}
use Rattle.command_groups.specs.Lacking.{GroupsLack, LacksIn, group_said}
use Rattle.command_groups.specs.Numbers.{answer_of_stores, refused_of_stores}
use Rattle.command_steps.specs.Sources.{storage_of}
use Rattle.command_words.specs.declared.command.Location.{Location}
use Rattle.command_worlds.specs.Steps.{◌>>=◌}
use Rattle.command_worlds.specs.Worlds.{Step, World}
use Rattle.dsy_base.specs.Maps.{Map}
use Rattle.image_reader.proofs.StoreImages.{stores_right}
use Rattle.image_reader.specs.Covered.{want_of}
use Rattle.image_reader.specs.Images.{IsRange, SomeGivesEntry, image_of_stores}
use Rattle.image_reader.specs.Reading.{IsGot}
use Rattle.store_chain.specs.Chains.{Chained}
use Rattle.store_chain.specs.Giving.{LacksAll}
use Rattle.store_chain.specs.Refusals.{Refuses}
use Rattle.store_chain.specs.declared.refused.Refused.{Refused}
use Rattle.store_chain.specs.declared.refused.Refused.TheVariants as refused

-- a step passed, and what follows on it ended so
pub then_so : {A B : Type 0} (step : Step World A) (next : A → Step World B) (w u v : World) (a : A) (r : Result B Outcome) → step w (Ok a) u → next a u r v → (step >>= next) w r v
then_so step next w u v a (Ok b) did then = record { disk = u.disk; dial = u.dial; out = u.out; gave = a; did = did; then = then }
then_so step next w u v a (Err o) did then = inr (record { disk = u.disk; dial = u.dial; out = u.out; gave = a; did = did; then = then })

-- some element is so, and its place is
any_as : {S L : Type 0} (location : S → L) (T P : S → Type 0) (Q : L → Type 0) → ((s : S) → T s → P s → Q (location s)) → (xs : List S) (names : List L) → map location xs ≡ names → All T xs → (k : ℕ) (x : S) → k < length xs → slice_index_or xs k x ≡ x → P x → Any Q names
any_as location T P Q f [] names same all k x lt is p = absurd (omega arith)
any_as location T P Q f (y ∷ xs) [] same all k x lt is p = absurd (cc)
any_as location T P Q f (y ∷ xs) (q ∷ names) same all zero x lt is p =
    let here : location y ≡ q = cc in
    (0, q, omega arith, refl, subst Q here (f y (all 0 y (omega arith)) (subst P (sym is) p)))
any_as location T P Q f (y ∷ xs) (q ∷ names) same all (suc k) x lt is p =
    let rest : map location xs ≡ names = cc in
    let r = any_as location T P Q f xs names rest (All-tail T y xs all) k x (omega arith) is p in
    (suc r.0, r.1, omega arith, r.3, r.4)

module _ {S : Type 0} (sure : Bool) (store : StoreWords S) (locations : S → List Location) (files : S → Option (Map (List ℕ))) (retries : ℕ) (w v : World) (groups : List (List Location)) (l : Listing) (rules : Rules l) (at n : ℕ) (c d : Chained S) (kind : c.kind ≡ kind_of l)
    (held : (fs : List (Map (List ℕ))) → map files c.stores ≡ map Some fs → map store.holds c.stores ≡ map Some (map chunks fs)) (found : IfSome w.disk.folders (λ m. map files c.stores ≡ map (group_files sure m) groups))
    (located : map locations d.stores ≡ groups) (stand : All (GroupStands locations store.said store.faults retries (storage_of w) (storage_of v)) d.stores)
    (alone : (s : S) → IfSome (store.holds s) (λ m. store.members s ≡ Some (m ∷ []))) where
  -- what holds where all groups tell
  where_told : (P : List (Map (List ℕ)) → Type 0) → ((fs : List (Map (List ℕ))) → map files c.stores ≡ map Some fs → map store.holds c.stores ≡ map Some (map chunks fs) → P fs) → IfFolders sure (storage_of w) groups P
  where_told P f = go w.disk.folders found where
    go : (o : Option (Map (Map (List ℕ)))) → IfSome o (λ m. map files c.stores ≡ map (group_files sure m) groups) → IfSome o (λ m. (fs : List (Map (List ℕ))) → map (group_files sure m) groups ≡ map Some fs → P fs)
    go None h = tt
    go (Some m) h = λ fs told. f fs (h ∙ told) (held fs (h ∙ told))

  -- a chunk that was got
  gives_told : (i : ℕ) → IsGot store c.kind (want_of l i) c.stores d.stores → (fs : List (Map (List ℕ))) → map store.holds c.stores ≡ map Some (map chunks fs) → SomeGivesEntry l i (map chunks fs)
  gives_told i g fs told =
      let C : DigestKind → Type 0 = λ k. IsChunk k (id_of l i) (size_of l i) g.bytes in
      let any = g.held (map chunks fs) (told_alone store.holds store.members alone c.stores (map chunks fs) told) in
      (any.0, any.1, any.2, any.3, (g.bytes, any.4, subst C kind g.chunk))

  given_entry : (i : ℕ) → IsGot store c.kind (want_of l i) c.stores d.stores → IsGivenEntry sure groups retries l at n w v i
  given_entry i g =
      let C : DigestKind → Type 0 = λ k. IsChunk k (id_of l i) (size_of l i) g.bytes in
      let T = GroupStands locations store.said store.faults retries (storage_of w) (storage_of v) in
      record {
        shown = any_as locations T (λ s. (store.said s).shown (id_of l i) g.bytes) (λ y. HasShownEntry l i (group_said (storage_of w) (storage_of v) y)) (λ s so p. (g.bytes, (so.says (id_of l i)).shown g.bytes p, subst C kind g.chunk)) d.stores groups located stand g.shown.0 g.shown.1 g.shown.2 g.shown.3 g.shown.4;
        held = where_told (λ fs. SomeGivesEntry l i (map chunks fs)) (λ fs told holds. gives_told i g fs holds);
      }

  puts_first : (m : ℕ) → PutsGiven store l at n c d w.out v.out m → PutsFirst sure groups retries l at n w v m
  puts_first m h = record {
    fits = h.fits;
    text = h.puts.text;
    bytes = h.puts.bytes;
    exactly = where_told (λ fs. IsRange l at m (image_of_stores l (map chunks fs)) h.puts.text)
        (λ fs told holds. h.puts.bytes.right (image_of_stores l (map chunks fs)) (stores_right l (map chunks fs) rules at m (λ i covered. gives_told i (h.given i covered) fs holds)));
    taken = h.puts.taken;
    given = λ i covered. given_entry i (h.given i covered);
  }

  -- what the groups lack, by their own numbers
  lack : (k : ℕ) (id : ChunkId) (r : Refused) → PutsUntil store l at n c d w.out v.out k id r → GroupsLack retries (chunk_at (kind_of l) l k) (storage_of w) (storage_of v) groups r
  lack k id r h =
      let R : DigestKind → Type 0 = λ x. Refuses store.said store.faults store.may_lack_memory (chunk_at x l k) h.before d.stores r in
      groups_lack locations store.said store.faults retries (storage_of w) (storage_of v) groups store.may_lack_memory (chunk_at (kind_of l) l k) r h.before d.stores h.many located stand (subst R kind h.refused)

  -- and by those of stores
  puts_before : (k : ℕ) (id : ChunkId) (by_group : Refused) → PutsUntil store l at n c d w.out v.out k id by_group → PutsBefore sure groups retries l at n w v k id (refused_of_stores groups by_group)
  puts_before k id by_group h =
      let L : List (Map (List ℕ)) → DigestKind → Type 0 = λ fs x. LacksAll (chunk_at x l k) (map chunks fs) by_group in
      record {
        covered = h.covered;
        id_is = h.id_is;
        puts = puts_first (bytes_before l at k) h.puts;
        said = have_lacked_in retries (chunk_at (kind_of l) l k) (storage_of w) (storage_of v) groups by_group (lack k id by_group h);
        lacks = where_told (λ fs. LacksIn (first_store groups) (chunk_at (kind_of l) l k) (map chunks fs) (refused_of_stores groups by_group))
            (λ fs told holds. lacks_numbered groups (chunk_at (kind_of l) l k) (map chunks fs) by_group (subst (L fs) kind (h.lacks (map chunks fs) holds)));
      }

  pub ends_between : (r : Result Unit Outcome) → EndsGiving store l at n c d w.out v.out r → EndsRange sure groups retries l at n w v (answer_of_stores groups r)
  ends_between (Ok u) h = puts_first n h
  ends_between (Err (ends.Missing k id)) h = puts_before k id refused.Missing h
  ends_between (Err (ends.Damaged k id s x)) h = puts_before k id (refused.Damaged s x) h
  ends_between (Err (ends.StoreFault s)) h = (h.0, h.1, puts_before h.0 h.1 (refused.StoreFault s) h.2)
  ends_between (Err ends.OutFault) h = (h.0, (h.1.0, puts_first h.1.0 h.1.1))
  ends_between (Err ends.Memory) h = ((h.0.0, puts_first h.0.0 h.0.1), h.1)
  ends_between (Err other) h = absurd h
