-- What each command answers and leaves where nothing fails, by what stood before it. Want of memory is free.
use Rattle.std.specs.Prelude.{◌≡◌, ◌==◌, ◌⊎◌, ◌++◌, ℕ, ◌<◌, Bool, true, false, List, [], ◌∷◌, length, map, drop}
use Rattle.std.specs.Prelude.{IsSome}
use Rattle.std.specs.Prelude.{IsTrue, Option, Some, None, IfSome, MatchOption}
use Rattle.std.specs.List.{All, Any, Contains}
use Rattle.assembler.specs.Assemblies.{IsLeast}
use Rattle.buzhash_cut.specs.Image.{HasTooManyCuts, IsIndexOfImage}
use Rattle.buzhash_cut.specs.Sizes.{Sizes, size_fault}
use Rattle.cache_store.specs.Giving.{GiveOneSize, SomeGives}
use Rattle.caibx_codec.specs.Listing.{Listing, count_of, id_of, image_length, kind_of, size_of}
use Rattle.caibx_codec.specs.Right.{IsRight}
use Rattle.caibx_codec.specs.Spelling.{file_of}
use Rattle.chunk_sources.specs.Caches.{IsListedAs}
use Rattle.chunk_sources.specs.Losses.{chunk_of}
use Rattle.chunk_store.specs.Folders.{chunks}
use Rattle.chunk_store.specs.Giving.{IsChunk}
use Rattle.chunk_store.specs.declared.id.ChunkId.{ChunkId}
use Rattle.chunk_store.specs.declared.id.DigestKind.{DigestKind}
use Rattle.command_help.specs.Help.{help_text}
use Rattle.command_help.specs.declared.help.Topic.TheVariants as topics
use Rattle.command_outcome.specs.declared.outcome.Outcome.{Outcome}
use Rattle.command_outcome.specs.declared.outcome.Outcome.TheVariants as ends
use Rattle.command_indexes.specs.Places.{are_files}
use Rattle.command_indexes.specs.Blames.{Parts}
use Rattle.command_groups.specs.Groups.{first_store, stores_of}
use Rattle.command_groups.specs.Lacking.{LacksIn}
use Rattle.command_steps.specs.InputFiles.{IsListed}
use Rattle.command_steps.specs.Seeds.{image_name}
use Rattle.command_steps.specs.Stores.{are_folders, folder_name}
use Rattle.command_words.specs.declared.command.Command.{Command}
use Rattle.command_words.specs.declared.command.Command.TheVariants as commands
use Rattle.command_words.specs.declared.command.Location.{Location}
use Rattle.command_words.specs.declared.command.Location.TheVariants as locations
use Rattle.command_worlds.specs.Steps.{answer_of}
use Rattle.command_worlds.specs.Worlds.{DiskQuiet, World}
use Rattle.desync_cli.specs.AtHand.{into}
use Rattle.desync_cli.specs.Contents.{Contents, Ending, HasContents, PrintsText, Unchanged, with_file, with_folder}
use Rattle.desync_cli.specs.Contents.{with_text}
use Rattle.desync_cli.specs.Contents.{◌>>=◌, folder_at, folders_at, image_at, index_at, indexes_at}
use Rattle.dir_store.specs.Names.{is_stranger}
use Rattle.dsy_base.specs.Counts.{Quiet}
use Rattle.dsy_base.specs.Links.{LinkState, Traffic}
use Rattle.dsy_base.specs.Maps.{Map, at_name}
use Rattle.extract_command.specs.Extract.{AreFilled, HadFrom, Seeds, base_of, folder_of, temporary_out}
use Rattle.http_serve.specs.Protocols.{Asked, Protocol}
use Rattle.http_serve.specs.Requests.{AreRequests, IsOver}
use Rattle.http_serve.specs.Turns.{files_left, replies, turns_of}
use Rattle.image_check.specs.Checks.{IsFirstWrong}
use Rattle.image_commands.specs.Make.{cut_sizes_of}
use Rattle.image_demo.specs.Figures.{AreFigures, HasTwoPieces, text_of_figures}
use Rattle.image_demo.specs.Images.{usual_sizes}
use Rattle.image_demo.specs.declared.figures.Figures.{Figures}
use Rattle.image_reader.specs.Covered.{IsCovered}
use Rattle.image_reader.specs.Images.{IsRange, SomeGivesEntry, image_of_stores}
use Rattle.image_store.specs.PutChunks.{HoldsAll, PutsFiles, Stands}
use Rattle.index_server.specs.Talks.{index_protocol}
use Rattle.locked_shelf.specs.Keepings.{KeepsOpening}
use Rattle.server_commands.specs.ChunkServing.{chunk_protocol}
use Rattle.store_chain.specs.declared.refused.Refused.{Refused}
use Rattle.store_chain.specs.declared.refused.Refused.TheVariants as refused
use Rattle.cache_command.specs.Caching.{IsCached}
use Rattle.cat_command.specs.Cat.{range_size}
use Rattle.cat_command.specs.Putting.{bytes_before}
use Rattle.server_commands.specs.Serving.{Heard}
use Rattle.store_commands.specs.Verify.{answer_of_left}
use Rattle.verify_tool.specs.Counts.{held_count}
use Rattle.cache_fill.specs.Filling.{IsGivenBy}
use Rattle.verify_tool.specs.Pruning.{is_listed_in, pruned}
use Rattle.verify_tool.specs.Texts.{text_of_chunks, text_of_info}
use Rattle.store_check.specs.Verifying.{AreDamaged, damaged_left, left_of, text_of_damaged}

-- nothing fails over a command with these parts: files, folders and the output tell, and hold x; no call on them or on
-- the listener has failed; and all stores are folders, and all indexes files
pub record IsFaultless (p : Parts) (w v : World) (x : Contents) : Type 0 where
  pub tells : HasContents w x
  pub disk : DiskQuiet w.disk v.disk
  pub out : Quiet w.out.faults v.out.faults
  pub listener : Quiet p.listener.0 p.listener.1
  pub folders : IsTrue (are_folders p.stores)
  pub indexes : IsTrue (are_files p.indexes)

-- ---- images

-- the image t is the one that is listed, or why it isn't
abbrev pub IsCompared : Listing → List ℕ → Outcome → Type 0
IsCompared l t ends.Done = IsRight t l
IsCompared l t (ends.Length n) = (n ≡ length t) × (length t ≡ image_length l → ⊥)
IsCompared l t (ends.Mismatch k got) = (length t ≡ image_length l) × IsFirstWrong t l k got.0
IsCompared l t other = ⊥

-- how many of its first entries are right, by that outcome
abbrev pub right_by : Listing → Outcome → ℕ
right_by l ends.Done = count_of l
right_by l (ends.Mismatch k got) = k
right_by l other = 0

-- a store's files f have become g: the chunks of the first n entries are there, and nothing but these and their
-- temporary files has changed
pub record AreStored (l : Listing) (t : List ℕ) (n : ℕ) (f g : Map (List ℕ)) : Type 0 where
  pub holds : HoldsAll l n (chunks g)
  pub stands : Stands l t n (chunks f) (chunks g)
  pub files : PutsFiles l (Some t) (Some (chunks f)) n (Some f) (Some g)

-- the image is held against the index, and its chunks are stored up to the first that is wrong
abbrev pub Chops : Listing → List ℕ → List ℕ → Map (List ℕ) → Ending
Chops l t q f x o y = IsCompared l t o × (g : Map (List ℕ)) × (y ≡ with_folder x q g) × AreStored l t (right_by l o) f g

-- the sizes are refused by their first fault
abbrev pub sizes_at : List ℕ → (Sizes → Ending) → Ending
sizes_at n next x o y = MatchOption (size_fault (cut_sizes_of n)) (next (cut_sizes_of n) x o y)
    (λ fault. Unchanged (ends.Sizes fault) x o y)

-- the image's chunks are in the store, and INDEX holds its index; or it has too many
abbrev pub Makes : DigestKind → Sizes → List ℕ → List ℕ → List ℕ → Map (List ℕ) → Ending
Makes kind s t index q f x ends.Done y = (HasTooManyCuts s t → ⊥) × (l : Listing) × IsIndexOfImage kind s t l
    × (g : Map (List ℕ)) × (y ≡ with_file (with_folder x q g) index (file_of l)) × AreStored l t (count_of l) f g
Makes kind s t index q f x ends.TooManyItems y = HasTooManyCuts s t × (y ≡ x)
Makes kind s t index q f x other y = ⊥

-- ---- chunks of an index

-- of what is listed of each store, what is listed of the first one of each group
abbrev pub firsts_of : {X : Type 0} → List (List Location) → List X → List X
firsts_of [] xs = []
firsts_of (g ∷ groups) [] = []
firsts_of (g ∷ groups) (x ∷ xs) = x ∷ firsts_of groups (drop (length g) (x ∷ xs))

-- entry k is the first of which P doesn't hold, and the groups of stores, which hold these, lack its chunk so. `number`
-- is the number of a store by that of its group
pub record IsFirstLacking (number : ℕ → ℕ) (l : Listing) (P : ℕ → Type 0) (stores : List (Map (List ℕ))) (k : ℕ)
    (id : ChunkId) (r : Refused) : Type 0 where
  pub listed : k < count_of l
  pub least : IsLeast P k
  pub id_is : id.0 ≡ id_of l k
  pub lacks : LacksIn number (chunk_of (kind_of l) id (size_of l k)) stores r

-- the outcome names it
abbrev pub NamesLacking : (ℕ → ℕ) → Listing → (ℕ → Type 0) → List (Map (List ℕ)) → Outcome → Type 0
NamesLacking number l P stores (ends.Missing k id) = IsFirstLacking number l P stores k id refused.Missing
NamesLacking number l P stores (ends.Damaged k id s shows) =
    IsFirstLacking number l P stores k id (refused.Damaged s shows)
NamesLacking number l P stores other = ⊥

-- a folder's files f have become g: under each id stands what stood there, or its chunk, which is listed and which a
-- store holds; and each file stays that is neither a chunk nor a temporary one
pub record GainsListed (Listed : DigestKind → List ℕ → ℕ → Type 0) (stores : List (Map (List ℕ))) (f g : Map (List ℕ))
    : Type 0 where
  pub held : (id : List ℕ) → (chunks g id ≡ chunks f id) ⊎ ((b : List ℕ) × (chunks g id ≡ Some b)
      × ((kind : DigestKind) × (n : ℕ) × Listed kind id n × IsChunk kind id n b) × Any (λ m. m id ≡ Some b) stores)
  pub strangers : (q : List ℕ) → IsTrue (is_stranger q) → g q ≡ f q

-- the index, which names its chunks by this kind of digest, lists the id with this size
abbrev pub IsListedBy : Listing → DigestKind → List ℕ → ℕ → Type 0
IsListedBy l kind id n = (kind_of l ≡ kind) × IsListedAs l id n

-- one of these files is an index that does
pub record IsListedAmong (files : Map (List ℕ)) (indexes : List (List ℕ)) (kind : DigestKind) (id : List ℕ) (n : ℕ)
    : Type 0 where
  pub index : List ℕ
  pub named : Contains indexes index
  pub listing : Listing
  pub listed : IsListed files index listing
  pub lists : IsListedBy listing kind id n

-- the indexes in order: the cache, which held m, or a store gives each entry's chunk; or the first index that can't be
-- read is named, or the first entry whose chunk isn't given. What is left isn't told
abbrev pub FillsInOrder : (ℕ → ℕ) → Map (List ℕ) → List (Map (List ℕ)) → List (List ℕ) → Ending
FillsInOrder number m stores [] = Unchanged ends.Done
FillsInOrder number m stores (q ∷ indexes) = index_at q (λ l x o y.
    NamesLacking number l (IsGivenBy l m stores) stores o
    ⊎ (((i : ℕ) → i < count_of l → IsGivenBy l m stores i) × FillsInOrder number m stores indexes x o y))

-- of each id that is listed with both kinds of digest, these stores together give chunks of one kind
abbrev pub GiveOneKind : (DigestKind → List ℕ → ℕ → Type 0) → List (Map (List ℕ)) → Type 0
GiveOneKind Listed maps = (id : List ℕ) (j k : DigestKind) (n m : ℕ) → Listed j id n → Listed k id m
    → SomeGives j id n maps → SomeGives k id m maps → j ≡ k

-- the cache was filled by the indexes. Cache and stores give each id that these list with several sizes, or with both
-- kinds of digest, with one
abbrev pub Caches : (ℕ → ℕ) → List (Map (List ℕ)) → List ℕ → List (List ℕ) → Map (List ℕ) → Ending
Caches number stores q indexes f x o y =
    ((kind : DigestKind) → GiveOneSize (IsListedAmong x.files indexes kind) kind (chunks f ∷ stores))
    → GiveOneKind (IsListedAmong x.files indexes) (chunks f ∷ stores)
    → FillsInOrder number (chunks f) stores indexes x o x
    × (o ≡ ends.Done → IsCached (IsListed x.files) x.folders y.folders q indexes)
    × ((g : Map (List ℕ)) × (y ≡ with_folder x q g) × GainsListed (IsListedAmong x.files indexes) stores f g)

-- ---- OUT

-- it becomes t in its place; or by way of the temporary file, which is gone then, and only if the command is done
abbrev pub OutBecomes : Bool → List ℕ → List ℕ → Outcome → Map (List ℕ) → Map (List ℕ) → Type 0
OutBecomes true out t o before after = after ≡ at_name before out (Some t)
OutBecomes false out t ends.Done before after =
    after ≡ at_name (at_name before out (Some t)) (temporary_out out) None
OutBecomes false out t other before after = after ≡ at_name before (temporary_out out) None

-- only the folder of the cache has changed, which has gained listed chunks
abbrev pub CacheGains : Option (List ℕ) → Listing → List (Map (List ℕ)) → Map (Map (List ℕ)) → Map (Map (List ℕ))
    → Type 0
CacheGains None l stores before after = after ≡ before
CacheGains (Some c) l stores before after = (f : Map (List ℕ)) × (before c ≡ Some f)
    × (g : Map (List ℕ)) × (after ≡ at_name before c (Some g)) × GainsListed (IsListedBy l) stores f g

-- what an assembly of OUT answers and leaves, where P says of each entry whether it can be obtained
pub record IsAssembledAs (number : ℕ → ℕ) (l : Listing) (P : ℕ → Type 0) (stores : List (Map (List ℕ)))
    (cache : Option (List ℕ)) (in_place : Bool) (out : List ℕ) (x : Contents) (o : Outcome) (y : Contents)
    : Type 0 where
  pub answer : ((o ≡ ends.Done) × ((i : ℕ) → i < count_of l → P i)) ⊎ NamesLacking number l P stores o
  pub image : List ℕ
  pub size : length image ≡ image_length l
  pub filled : AreFilled l P (base_of x.files (into in_place out) l) image
  pub becomes : OutBecomes in_place out image o x.files y.files
  pub gains : CacheGains cache l stores x.folders y.folders
  pub printed : y.printed ≡ x.printed

-- so it is. If there is a cache, it and the stores give each id that INDEX lists with several sizes with one
abbrev pub Extracts : (ℕ → ℕ) → Listing → Seeds → List (Map (List ℕ)) → List (Map (List ℕ)) → Option (List ℕ) → Bool
    → List ℕ → Ending
Extracts number l z fs cs cache in_place out x o y =
    (IsSome cache → GiveOneSize (IsListedAs l) (kind_of l) (map chunks cs ++ map chunks fs))
    → IsAssembledAs number l (HadFrom x.files (into in_place out) l z cs fs) (map chunks fs) cache in_place out x o y

-- ---- connections

-- one came as t and ended as u: its requests were answered in order by the files f, which became g
pub record IsRepliedTo {R : Type 0} (p : Protocol R (Map (List ℕ))) (t : Traffic) (u : LinkState) (f g : Map (List ℕ))
    : Type 0 where
  pub asked : List (Asked R)
  pub left : Option (List ℕ)
  pub requests : AreRequests p.reading (Some t.coming) asked left
  pub over : IsOver p.reading left
  pub ended : Traffic
  pub told : u.traffic ≡ Some ended
  pub sent : ended.sent ≡ replies p.reading.closes (turns_of p.answering f asked)
  pub files : g ≡ files_left p.answering f asked

-- so did these, each answered by the files that the one before it left
abbrev pub AreRepliedTo
    : {R : Type 0} → Protocol R (Map (List ℕ)) → List Traffic → List LinkState → Map (List ℕ) → Map (List ℕ) → Type 0
AreRepliedTo p [] [] f g = g ≡ f
AreRepliedTo p (t ∷ came) (u ∷ gone) f g =
    (next : Map (List ℕ)) × IsRepliedTo p t u f next × AreRepliedTo p came gone next g
AreRepliedTo p came gone f g = ⊥

-- the files f became g: over a listener that tells, connections on which no call failed were answered so
abbrev pub IsAnsweredInTurn
    : {R : Type 0} → Protocol R (Map (List ℕ)) → Heard → Map (List ℕ) → Option (Map (List ℕ)) → Type 0
IsAnsweredInTurn p h f g = IfSome h.old.coming (λ came. IfSome h.old.ended (λ done. (gone : List LinkState)
    × (h.new.ended ≡ Some (done ++ gone)) × (All (λ u. u.faults ≡ 0) gone
    → (now : Map (List ℕ)) × (g ≡ Some now) × AreRepliedTo p came gone f now)))

-- with one worker chunks are served so; else each id holds what it held, or a right chunk
abbrev pub ChunksAnswered : DigestKind → Bool → Heard → Bool → Map (List ℕ) → Option (Map (List ℕ)) → Type 0
ChunksAnswered kind false h writable f g = KeepsOpening kind f g
ChunksAnswered kind true h writable f g = IsAnsweredInTurn (chunk_protocol kind writable) h f g

-- all connections that came were served, which left the folder so
abbrev pub Answers : (Map (List ℕ) → Option (Map (List ℕ)) → Type 0) → List ℕ → Map (List ℕ) → Ending
Answers served q f x o y = (o ≡ ends.Done) × (g : Option (Map (List ℕ)))
    × (y ≡ record x { folders = at_name x.folders q g }) × served f g

-- ---- the commands

-- damaged chunk files are printed, and with `repair` removed
abbrev pub Verifies : DigestKind → List ℕ → Bool → Map (List ℕ) → Ending
Verifies kind q repair f x o y = (damaged : List (List ℕ)) × AreDamaged kind f damaged
    × (answer_of o ≡ answer_of_left (damaged_left repair damaged))
    × (y ≡ record {
      files = x.files;
      folders = at_name x.folders q (left_of repair damaged (Some f));
      printed = x.printed ++ text_of_damaged repair damaged;
    })

-- how many bytes of the range are put with this outcome: all, or those before the entry that is named
abbrev pub bytes_put : Listing → ℕ → ℕ → Outcome → ℕ
bytes_put l at n (ends.Missing k id) = bytes_before l at k
bytes_put l at n (ends.Damaged k id s shows) = bytes_before l at k
bytes_put l at n other = n

-- a store gives the chunk of entry i, if the range covers it
abbrev pub IsGivenIn : Listing → ℕ → ℕ → List (Map (List ℕ)) → ℕ → Type 0
IsGivenIn l at n stores i = IsCovered l at n i → SomeGivesEntry l i stores

-- the range of the image of the stores is printed; or the first entry that it covers and that no store gives is named,
-- and the bytes before it are printed. They are others only where two unequal pieces have one digest
abbrev pub PrintsRange : (ℕ → ℕ) → Listing → ℕ → ℕ → List (Map (List ℕ)) → Ending
PrintsRange number l at n stores x o y =
    (((o ≡ ends.Done) × ((i : ℕ) → IsGivenIn l at n stores i))
    ⊎ NamesLacking number l (IsGivenIn l at n stores) stores o)
    × (text : List ℕ) × (length text ≡ bytes_put l at n o)
    × IsRange l at (bytes_put l at n o) (image_of_stores l stores) text × (y ≡ with_text x text)

-- how many of the listed ids stores hold, if there are stores
abbrev pub in_stores : Listing → List (Map (List ℕ)) → Option ℕ
in_stores l [] = None
in_stores l (m ∷ stores) = Some (held_count l (m ∷ stores))

-- the figures of an image are printed; or two pieces of bytes have one digest, which is named
abbrev pub Demonstrates : DigestKind → ℕ → ℕ → Ending
Demonstrates kind number size x o y =
    ((f : Figures) × AreFigures kind number size f × PrintsText (text_of_figures f) x o y)
    ⊎ ((k : ℕ) × (id : ChunkId) × HasTwoPieces kind usual_sizes.greatest id.0 × Unchanged (ends.Mismatch k id) x o y)

-- each command, where this was heard
abbrev pub EndingOf : Heard → Command → Ending
EndingOf h (commands.Make store sizes workers digest index image) = do
  s ← sizes_at sizes
  t ← image_at image
  f ← folder_at (folder_name store)
  Makes digest s t index (folder_name store) f
EndingOf h (commands.Chop store workers index image) = do
  l ← index_at index
  t ← image_at image
  f ← folder_at (folder_name store)
  Chops l t (folder_name store) f
EndingOf h (commands.VerifyIndex workers index image) = do
  l ← index_at index
  t ← image_at image
  λ x o y. IsCompared l t o × (y ≡ x)
EndingOf h (commands.Cache stores retries cache workers indexes) = do
  fs ← folders_at (stores_of stores)
  f ← folder_at cache
  Caches (first_store stores) (map chunks (firsts_of stores fs)) cache indexes f
EndingOf h (commands.Extract stores retries seeds cache in_place workers index target) = do
  l ← index_at index
  ls ← indexes_at 0 seeds
  fs ← folders_at (stores_of stores)
  cs ← folders_at (map locations.Folder (folder_of cache))
  Extracts (first_store stores) l (record { images = map image_name seeds; listings = ls }) (firsts_of stores fs) cs
      cache in_place target
EndingOf h (commands.ListChunks index) = do
  l ← index_at index
  PrintsText (text_of_chunks l)
EndingOf h (commands.Cat stores retries offset length index) = do
  l ← index_at index
  fs ← folders_at (stores_of stores)
  PrintsRange (first_store stores) l offset (range_size l offset length) (map chunks (firsts_of stores fs))
EndingOf h (commands.Info stores retries index) = do
  l ← index_at index
  fs ← folders_at (stores_of stores)
  PrintsText (text_of_info l (in_stores l (map chunks (firsts_of stores fs))))
EndingOf h (commands.Verify store repair workers digest) = do
  f ← folder_at store
  Verifies digest store repair f
EndingOf h (commands.Prune store indexes) = do
  ls ← indexes_at 0 indexes
  f ← folder_at store
  λ x o y. (o ≡ ends.Done) × (y ≡ with_folder x store (pruned (is_listed_in ls) f))
EndingOf h (commands.ChunkServer store host port writable workers digest) = do
  f ← folder_at store
  Answers (ChunksAnswered digest (workers == 1) h writable) store f
EndingOf h (commands.Proxy stores retries cache host port workers digest) = do
  fs ← folders_at (stores_of stores)
  f ← folder_at cache
  Answers (KeepsOpening digest) cache f
EndingOf h (commands.IndexServer store host port writable) = do
  f ← folder_at store
  Answers (IsAnsweredInTurn (index_protocol writable) h) store f
EndingOf h (commands.Demo number size workers digest) = Demonstrates digest number size
EndingOf h commands.Help = PrintsText (help_text topics.All)
EndingOf h commands.Version = PrintsText (help_text topics.Version)
EndingOf h (commands.HelpOn kind) = PrintsText (help_text (topics.Command kind))

-- the command ended exactly so, and the world tells what it left; or there was no memory
abbrev pub IsExact : Heard → Command → Contents → Outcome → World → Type 0
IsExact h c x o v = (o ≡ ends.Memory) ⊎ ((y : Contents) × HasContents v y × EndingOf h c x o y)
