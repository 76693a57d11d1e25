-- What `cat` answers and prints where nothing fails.
use Rattle.std.proofs.Common.{Bool, ap, arith, ◌⊎◌, ◌++◌, ◌≡◌, ◌∙◌, ℕ, ◌<◌, List, map, Option, Some, IfSome, IsTrue, refl, subst, sym, inl, inr, Result, Ok, Err}
use Rattle.std.specs.Option.{option_map}
use Rattle.caibx_codec.proofs.Rules.{rules_hold}
use Rattle.caibx_codec.specs.Listing.{Listing, Rules, kind_of, size_of}
use Rattle.cat_command.specs.Cat.{CatEnds, PutFrom, PutsBefore, PutsFirst, RangePut, IfFolders, range_size}
use Rattle.cat_command.specs.Putting.{bytes_before, chunk_at}
use Rattle.chunk_store.specs.Folders.{chunks}
use Rattle.chunk_store.specs.declared.store.Giver.{Giver}
use Rattle.chunk_store.specs.declared.id.ChunkId.{ChunkId}
use Rattle.chunk_store.specs.declared.shows.Shows.{Shows}
use Rattle.command_outcome.specs.declared.outcome.Outcome.{Outcome}
use Rattle.command_outcome.specs.declared.outcome.Outcome.TheVariants as ends
use Rattle.command_groups.specs.Groups.{first_store, group_files, stores_of}
use Rattle.command_groups.specs.Lacking.{LacksIn}
use Rattle.command_groups.specs.Numbers.{numbered_by}
use Rattle.command_indexes.specs.Places.{is_file}
use Rattle.command_steps.proofs.Numbers.{rose_not_quiet}
use Rattle.command_steps.specs.Sources.{ConsultsStores, storage_of}
use Rattle.command_steps.specs.Stores.{are_folders}
use Rattle.command_words.specs.declared.command.Location.{Location}
use Rattle.command_worlds.specs.Steps.{outcome_of}
use Rattle.command_worlds.specs.Worlds.{World}
use Rattle.desync_cli.proofs.Grouped.{AreTelling, HaveStores, none_lacking, tells_first}
use Rattle.desync_cli.proofs.Readings.{EndsSo, IsAt, IsQuiet, at_first, folder_unrisen, index_so, stores_so}
use Rattle.desync_cli.specs.Contents.{Contents, HasContents, folders_at, index_at, with_text}
use Rattle.desync_cli.specs.Exact.{IsFirstLacking, IsGivenIn, NamesLacking, PrintsRange, bytes_put, firsts_of}
use Rattle.dsy_base.specs.Maps.{Map}
use Rattle.image_reader.proofs.Stops.{lacks_not}
use Rattle.image_reader.specs.Covered.{IsCovered, want_of}
use Rattle.image_reader.specs.Images.{IsRange, SomeGivesEntry, image_of_stores}
use Rattle.store_chain.specs.Queries.{query_of}
use Rattle.store_chain.specs.declared.refused.Refused.{Refused}
use Rattle.store_chain.specs.declared.refused.Refused.TheVariants as refused

-- groups lack a chunk for a reason of the same kind
which_group : (number : ℕ → ℕ) (by_group r : Refused) → r ≡ numbered_by number by_group → (r ≡ refused.Missing) ⊎ ((s : Giver) × (y : Shows) × (r ≡ refused.Damaged s y)) → (by_group ≡ refused.Missing) ⊎ ((s : Giver) × (y : Shows) × (by_group ≡ refused.Damaged s y))
which_group number refused.Missing r is which = inl refl
which_group number (refused.Damaged k x) r is which = inr (k, x, refl)
which_group number (refused.StoreFault k) r is (inl none) = absurd (cc)
which_group number (refused.StoreFault k) r is (inr (s, y, shown)) = absurd (cc)
which_group number refused.Memory r is (inl none) = absurd (cc)
which_group number refused.Memory r is (inr (s, y, shown)) = absurd (cc)

module _ (x : Contents) (w v : World) (quiet : IsQuiet w v) where
  module _ (l : Listing) (rules : Rules l) (at n : ℕ) (sure : Bool) (groups : List (List Location)) (retries : ℕ) (have : HaveStores groups) (all : IsTrue (are_folders (stores_of groups))) (fs : List (Map (List ℕ))) (are : map (group_files sure x.folders) groups ≡ map Some fs) (u : World) (here : IsAt x w u) where
    abbrev maps : List (Map (List ℕ))
    maps = map chunks fs

    -- what holds where all stores tell
    told : (P : List (Map (List ℕ)) → Type 0) → IfFolders sure (storage_of u) groups P → P fs
    told P h =
        let W : Option (Map (Map (List ℕ))) → Type 0 = λ f. IfSome f (λ m. (fs : List (Map (List ℕ))) → map (group_files sure m) groups ≡ map Some fs → P fs) in
        let at_folders : W (Some x.folders) = subst W here.has.folders h in
        at_folders fs are

    -- the bytes are those before this entry, or all
    puts_as : (o : Outcome) (m : ℕ) → m ≡ bytes_put l at n o → PutsFirst sure groups retries l at n u v m → ConsultsStores (stores_of groups) (storage_of u) (storage_of v)
        → ((o ≡ ends.Done) × ((i : ℕ) → IsGivenIn l at n maps i)) ⊎ NamesLacking (first_store groups) l (IsGivenIn l at n maps) maps o → EndsSo x v (PrintsRange (first_store groups) l at n maps) o
    puts_as o m is h consults answer =
        let R : ℕ → Type 0 = λ k. IsRange l at k (image_of_stores l maps) h.text in
        inr (
          with_text x h.text,
          record {
            files = consults.0.disk.files ∙ here.has.files;
            folders = consults.0.disk.folders ∙ here.has.folders;
            printed = h.taken ∙ ap (option_map (λ t. t ++ h.text)) here.has.printed;
          },
          (answer, h.text, h.bytes.size ∙ is, subst R is (told (λ fs. IsRange l at m (image_of_stores l (map chunks fs)) h.text) h.exactly), refl),
        )

    -- what is covered before an entry
    covered_before : (k i : ℕ) → i < k → IsCovered l at n k → IsCovered l at n i → IsCovered l at (bytes_before l at k) i
    covered_before k i lt c d = record { listed = d.listed; covers = (let end = rules.ordered i k lt c.listed in let cover = d.covers in omega (arith, end, cover)) }

    gives : (i m : ℕ) → PutsFirst sure groups retries l at n u v m → IsCovered l at m i → SomeGivesEntry l i maps
    gives i m h covered = told (λ fs. SomeGivesEntry l i (map chunks fs)) ((h.given i covered).held)

    first_lacking : (k : ℕ) (id : ChunkId) (r : Refused) → PutsBefore sure groups retries l at n u v k id r → ((r ≡ refused.Missing) ⊎ ((s : Giver) × (y : Shows) × (r ≡ refused.Damaged s y))) → IsFirstLacking (first_store groups) l (IsGivenIn l at n maps) maps k id r
    first_lacking k id r h which =
        let lacks = told (λ fs. LacksIn (first_store groups) (chunk_at (kind_of l) l k) (map chunks fs) r) h.lacks in
        let L : ChunkId → Type 0 = λ c. LacksIn (first_store groups) (query_of (kind_of l) c (Some (size_of l k)) (size_of l k)) maps r in
        record {
          listed = h.covered.listed;
          least = (λ i lt covered. gives i (bytes_before l at k) h.puts (covered_before k i lt h.covered covered), λ some. lacks_not (kind_of l) (want_of l k) maps lacks.0 lacks.2 (some h.covered) (which_group (first_store groups) lacks.0 r lacks.1 which));
          id_is = ap (λ (c : ChunkId). c.0) h.id_is;
          lacks = subst L (sym h.id_is) lacks;
        }

    range_so : (r : Result Unit Outcome) → RangePut sure groups retries l at n u r v → EndsSo x v (PrintsRange (first_store groups) l at n maps) (outcome_of r)
    range_so (Ok t) h = puts_as ends.Done n refl h.0 h.1 (inl (refl, λ i covered. gives i n h.0 covered))
    range_so (Err (ends.Missing k id)) h = puts_as (ends.Missing k id) (bytes_before l at k) refl h.0.puts h.1 (inr (first_lacking k id refused.Missing h.0 (inl refl)))
    range_so (Err (ends.Damaged k id s shows)) h = puts_as (ends.Damaged k id s shows) (bytes_before l at k) refl h.0.puts h.1 (inr (first_lacking k id (refused.Damaged s shows) h.0 (inr (s, shows, refl))))
    range_so (Err (ends.StoreFault s)) h =
        absurd (none_lacking retries (chunk_at (kind_of l) l h.0.0) (storage_of u) (storage_of v) (folder_unrisen x w u v here quiet) s groups have all h.0.2.said)
    range_so (Err ends.OutFault) h = absurd (rose_not_quiet w.out.faults u.out.faults v.out.faults here.out h.0.0 quiet.out)
    range_so (Err ends.Memory) h = inl refl
    range_so (Err other) h = absurd h.0

  pub puts_so : (sure : Bool) (groups : List (List Location)) (retries : ℕ) → AreTelling sure groups → (offset : ℕ) (size : Option ℕ) (index : List ℕ) → IsTrue (are_folders (stores_of groups)) → IsTrue (is_file index) → HasContents w x → (r : Result Unit Outcome) → CatEnds sure groups retries offset size index w r v
      → EndsSo x v (index_at index (λ l. folders_at (stores_of groups) (λ fs. PrintsRange (first_store groups) l offset (range_size l offset size) (map chunks (firsts_of groups fs))))) (outcome_of r)
  puts_so sure groups retries telling offset size index all file has = index_so x w v quiet index file (λ l. folders_at (stores_of groups) (λ fs. PrintsRange (first_store groups) l offset (range_size l offset size) (map chunks (firsts_of groups fs)))) (λ l. PutFrom sure groups retries l offset (range_size l offset size))
      (λ l e at is. stores_so x w v quiet (stores_of groups) all (λ fs. PrintsRange (first_store groups) l offset (range_size l offset size) (map chunks (firsts_of groups fs))) (λ _. RangePut sure groups retries l offset (range_size l offset size))
      (λ fs u here are. range_so l (rules_hold l is.file.valid) offset (range_size l offset size) sure groups retries telling.have all (firsts_of groups fs) (tells_first sure x.folders groups fs telling are) u here) e at)
      w (at_first x w has)
