-- What each command leaves, and what its refusals tell: a lemma for each step of its own, and a line a command.
use Rattle.std.proofs.Common.{◌≡◌, ◌&&◌, ℕ, zero, suc, List, [], ◌∷◌, map, All, IfSome, IsSomeAnd, Bool, IsTrue, is_some, not, true, false, Option, Some, None, Result, Ok, Err, refl, sym, subst, inl, inr, arith, cond}
use Rattle.std.specs.List.{Any, Contains}
use Rattle.std.specs.Map.{count_at}
use Rattle.buzhash_cut.specs.Sizes.{Sizes}
use Rattle.caibx_codec.specs.Listing.{Listing, id_of, kind_of, size_of}
use Rattle.chunk_sources.specs.Losses.{chunk_of}
use Rattle.chunk_store.specs.declared.id.DigestKind.{DigestKind}
use Rattle.command_help.specs.Help.{help_text}
use Rattle.command_help.specs.declared.help.Topic.TheVariants as topics
use Rattle.command_line.specs.CommandLine.{command_line}
use Rattle.command_outcome.specs.declared.outcome.Outcome.{Outcome}
use Rattle.command_outcome.specs.declared.outcome.Outcome.TheVariants as ends
use Rattle.command_indexes.proofs.Fair.{got_step, indexes_got_step, not_spelled_fair}
use Rattle.command_indexes.specs.Places.{are_files, is_file}
use Rattle.command_indexes.specs.Blames.{Blames, IndexRose, IsUnfetched, Keeps, Parts, Spares}
use Rattle.command_words.specs.declared.command.Command.{Command}
use Rattle.command_words.specs.declared.command.Command.TheVariants as commands
use Rattle.command_words.specs.declared.command.Location.{Location}
use Rattle.command_words.specs.declared.command.Location.TheVariants as locations
use Rattle.command_words.specs.Limits.{Fits}
use Rattle.command_words.specs.Locations.{index_place_of}
use Rattle.command_words.specs.declared.location.IndexPlace.{IndexPlace}
use Rattle.command_words.specs.declared.location.IndexPlace.TheVariants as places
use Rattle.command_words.specs.declared.location.NoLocation.{NoLocation}
use Rattle.command_words.specs.declared.usage.WordsFault.{WordsFault}
use Rattle.desync_cli.specs.Unfailed.{FetchTaken, IndexTaken, NothingFailed, RepliesTaken}
use Rattle.command_worlds.specs.Steps.{Passed, answer_of, outcome_of}
use Rattle.command_worlds.specs.Worlds.{FileRose, FolderRose, NoFault, Step, World, Writes, world}
use Rattle.command_steps.proofs.Dialed.{dials_same}
use Rattle.command_indexes.proofs.FairSteps.{IsFair, IsLeft, IsRefusal, IsStep, Unread, adds, behind, between, bound, consults, cache_step, fair_longer, image_step, indexes_step, left_twice, on_disk, on_out, on_sources, printed_step, pure_step, reads, round, source_taken_step, sources_fair, sources_step, taken_step, whole, writes}
use Rattle.command_groups.specs.Groups.{stores_of}
use Rattle.command_steps.proofs.Numbers.{rose_not_quiet}
use Rattle.desync_cli.proofs.Grouped.{HaveStores, group_failed, lacking_failed}
use Rattle.cache_command.specs.Caching.{EndsFilling, FillTells, IndexesFilled, NotFilled, of_command, outcome_of_fill}
use Rattle.cat_command.specs.Cat.{RangePut, range_size}
use Rattle.cat_command.specs.Putting.{chunk_at}
use Rattle.image_commands.specs.Chop.{ImageChopped}
use Rattle.desync_cli.specs.Commands.{CommandEnds, DesyncEnds, NoCommand, SureTypes, TellsRefusal, WordsRead, command_of, command_said, parts, refusal_in, spares, usage_refusal}
use Rattle.print_commands.specs.Demo.{Rehearsed}
use Rattle.extract_command.proofs.Wrote.{wrote_on}
use Rattle.extract_command.specs.Extract.{CacheFilled, Clearing, ExtractStores, FillsCache, ImageMade, Into, NeverFail, OutMade, Renamed, Seeds, beside, in_place, never_fail, temporary_out}
use Rattle.store_commands.specs.Info.{IdsCounted, NotAsked}
use Rattle.image_commands.specs.Make.{ImageStored, IndexWritten, SizesJudged, WritesStore}
use Rattle.proxy_command.specs.ProxyServing.{LookTypes, OrUnheard, ProxyServed, ServesProxyTo, Supply, Surely}
use Rattle.server_commands.specs.Serving.{FolderServed, FolderServing, Heard, TakenUnheard}
use Rattle.store_commands.specs.VerifyIndex.{ImageChecked}
use Rattle.verify_tool.specs.Pruning.{is_listed_in}
use Rattle.store_commands.specs.Prune.{StorePruned}
use Rattle.store_commands.specs.Verify.{KeepsCounts, StoreVerified}
use Rattle.command_steps.specs.Seeds.{image_name}
use Rattle.command_steps.specs.Dials.{since}
use Rattle.command_steps.specs.Sources.{DialsStores, NotAsking, Storage, StoreRose, server_at, storage, storage_of, store_at}
use Rattle.command_steps.specs.Stores.{are_folders, is_folder}
use Rattle.dsy_base.specs.Counts.{Quiet, Rose}
use Rattle.dsy_base.specs.Disk.{Disk, Output}
use Rattle.dsy_base.specs.Links.{Traffic}
use Rattle.dsy_base.specs.Maps.{Map}
use Rattle.http_read.specs.Refusals.{IsUnacceptable}
use Rattle.cache_fill.specs.Filling.{entry_want}
use Rattle.image_demo.specs.Figures.{text_of_figures}
use Rattle.verify_tool.specs.Texts.{text_of_chunks, text_of_info}
use Rattle.cache_fill.specs.declared.fill.FillFault.{FillFault}
use Rattle.cache_fill.specs.declared.fill.FillFault.TheVariants as fills

-- ---- the steps of one command

module _ (s : Spares) (x : Parts) (p : Output) (looks : Bool) (groups : List (List Location)) (retries : ℕ) (some : HaveStores groups) (are : x.stores ≡ stores_of groups) (spared : IsTrue s.dial → IsTrue (are_folders (stores_of groups))) where
  asked_fair : (l : Listing) (w v : Storage) (o : Outcome) → NotAsked retries w v groups l o → IsFair x o (behind p w) (behind p v)
  asked_fair l w v (ends.StoreFault k) h = (tt, subst (λ (q : List Location). StoreRose w v (store_at q k)) (sym are) (group_failed (λ y. y.denied (id_of l h.1.0)) retries w v k groups some h.1.2))
  asked_fair l w v ends.Memory h = (tt, tt)
  asked_fair l w v other h = absurd h

  counted_step : (l : Listing) → IsStep (behind p) s x (IdsCounted looks groups retries l)
  counted_step l = record { fair = go; leaves = λ w v r h. consults p (stores_of groups) spared h.1 } where
    go : (w v : Storage) (o : Outcome) → IdsCounted looks groups retries l w (Err o) v → IsFair x o (behind p w) (behind p v)
    go w v o h = elim h.0 [
      | inl k ↦ sources_fair s x p w v (stores_of groups) o k
      | inr k ↦ asked_fair l w v o k
    ]

module _ (s : Spares) (x : Parts) (p : Unread) where
  checked_step : (l : Listing) (told : Option (List ℕ)) → IsStep (round p) s x (ImageChecked x.image l told)
  checked_step l told = record { fair = go; leaves = λ d e r h. reads p h.1 } where
    go : (d e : Disk) (o : Outcome) → ImageChecked x.image l told d (Err o) e → IsFair x o (round p d) (round p e)
    go d e (ends.Length n) h = (tt, tt)
    go d e (ends.Mismatch k got) h = (tt, tt)
    go d e ends.ImageFault h = (tt, h.0)
    go d e ends.Memory h = (tt, tt)
    go d e other h = absurd h.0

  written_fair : (q bytes : List ℕ) (d e : Disk) (o : Outcome) → IndexWritten q bytes d (Err o) e → IsFair x o (round p d) (round p e)
  written_fair q bytes d e (ends.FileFault name) h = (tt, inl (subst (λ n. FileRose d e n) (sym h.0.0) h.0.1))
  written_fair q bytes d e ends.Memory h = (tt, tt)
  written_fair q bytes d e other h = absurd h.0

-- what a step leaves that writes files, and the folder of a cache, and asks servers
filled : {o : Bool} {stores : ExtractStores} {cache : Option (List ℕ)} {l : Listing} {w v : Storage} (p : Output) → FillsCache stores cache l w.disk v.disk → DialsStores (stores_of stores.groups) w.dial v.dial
    → IsLeft (record { files = false; folders = not (is_some cache); dial = are_folders (stores_of stores.groups); out = o }) (behind p w) (behind p v)
filled {o} {stores} {cache} {l} {w} {v} p r dials = record {
  keeps = record { files = λ t. absurd (cc); folders = go cache r.folders; dial = dials.1; out = λ t. refl };
  files = r.counts;
  folders = r.folder_counts;
  dial = dials.0;
  out = omega arith;
} where
  go : (cache : Option (List ℕ)) → CacheFilled stores cache l w.disk v.disk → IsTrue (not (is_some cache)) → v.disk.folders ≡ w.disk.folders
  go None same t = same
  go (Some c) h t = absurd (cc)

assembled_step : (sure : NeverFail) (o : Bool) (x : Parts) (p : Output) (stores : ExtractStores) → HaveStores stores.groups → x.stores ≡ stores_of stores.groups → (cache : Option (List ℕ)) (l : Listing) (z : Seeds) (i : Into) → i.name ≡ x.target
    → IsStep (behind p) (record { files = false; folders = not (is_some cache); dial = are_folders (stores_of stores.groups); out = o }) x (ImageMade sure stores cache i l z)
assembled_step sure o x p stores some are cache l z i is = record { fair = fair; leaves = λ w v r h. filled p h.1 h.3 } where
  fair : (w v : Storage) (o : Outcome) → ImageMade sure stores cache i l z w (Err o) v → IsFair x o (behind p w) (behind p v)
  fair w v (ends.Missing k id) h = (tt, tt)
  fair w v (ends.Damaged k id store shows) h = (tt, tt)
  fair w v (ends.StoreFault k) h = (tt, subst (λ (q : List Location). StoreRose w v (store_at q k)) (sym are) (lacking_failed stores.retries (chunk_of (kind_of l) h.0.0.1 (size_of l h.0.0.0)) w v k stores.groups some h.0.0.4))
  fair w v ends.TargetFault h = (tt, subst (λ q. FileRose w.disk v.disk q) is h.0.0)
  fair w v ends.Memory h = (tt, tt)
  fair w v other h = absurd h.0

-- ---- the steps of `cat`

put_step : (x : Parts) (looks : Bool) (groups : List (List Location)) (retries : ℕ) → HaveStores groups → x.stores ≡ stores_of groups → (l : Listing) (at n : ℕ) → IsStep whole (record { files = true; folders = true; dial = are_folders (stores_of groups); out = false }) x (RangePut looks groups retries l at n)
put_step x looks groups retries some are l at n = record {
  fair = fair;
  leaves = λ w v r h. record {
    keeps = record { files = λ t. h.1.0.disk.files; folders = λ t. h.1.0.disk.folders; dial = h.1.1; out = λ t. absurd (cc) };
    files = h.1.0.disk.counts;
    folders = h.1.0.disk.folder_counts;
    dial = h.1.0.dial;
    out = h.3;
  };
} where
  fair : (w v : World) (o : Outcome) → RangePut looks groups retries l at n w (Err o) v → IsFair x o w v
  fair w v (ends.Missing k id) h = (tt, tt)
  fair w v (ends.Damaged k id store shows) h = (tt, tt)
  fair w v (ends.StoreFault s) h = (tt, subst (λ (q : List Location). StoreRose (storage_of w) (storage_of v) (store_at q s)) (sym are) (lacking_failed retries (chunk_at (kind_of l) l h.0.0) (storage_of w) (storage_of v) s groups some h.0.2.said))
  fair w v ends.OutFault h = (tt, h.0.0)
  fair w v ends.Memory h = (tt, tt)
  fair w v other h = absurd h.0

-- ---- the steps of `cache`

module _ (x : Parts) (p : Output) (looks : Bool) (groups : List (List Location)) (retries : ℕ) (some : HaveStores groups) (are : x.stores ≡ stores_of groups) (w v : Storage) where
  fill_fair : (l : Listing) (y : Option (Map (List ℕ))) (n : ℕ) (fault : FillFault) → FillTells (of_command looks retries w v groups x.cache) l y n fault → IsFair x (outcome_of_fill fault) (behind p w) (behind p v)
  fill_fair l y n (fills.Missing k id) h = (tt, tt)
  fill_fair l y n (fills.Damaged k id store shows) h = (tt, tt)
  fill_fair l y n (fills.StoreFault k) h = (tt, subst (λ (q : List Location). StoreRose w v (store_at q k)) (sym are) (lacking_failed retries (entry_want l n h.0) w v k groups some h.1.said))
  fill_fair l y n fills.CacheFault h = (tt, h.0)
  fill_fair l y n fills.Memory h = (tt, tt)

  ends_fair : (l : Listing) (held files : Option (Map (List ℕ))) (fault : FillFault) → EndsFilling (of_command looks retries w v groups x.cache) l fault held files → IsFair x (outcome_of_fill fault) (behind p w) (behind p v)
  ends_fair l held files fault (inl none) = subst (λ f. IsFair x (outcome_of_fill f) (behind p w) (behind p v)) (sym none.0) (tt, tt)
  ends_fair l held files fault (inr h) = fill_fair l files h.entry fault h.tells

  each_fair : (indexes : List (List ℕ)) → ((q : List ℕ) → Contains indexes q → Contains x.indexes q) → (held files : Option (Map (List ℕ))) (o : Outcome) → NotFilled (of_command looks retries w v groups x.cache) w v indexes held files o → IsFair x o (behind p w) (behind p v)
  each_fair [] among held files o h = absurd h
  each_fair (q ∷ indexes) among held files o (inl h) = not_spelled_fair x p w v q (among q (0, omega arith, refl)) o h.0
  each_fair (q ∷ indexes) among held files o (inr (l, listed, inl (fault, is, filled))) = subst (λ r. IsFair x r (behind p w) (behind p v)) (sym is) (ends_fair l held files fault filled.order)
  each_fair (q ∷ indexes) among held files o (inr (l, listed, inr (z, filled, rest))) = each_fair indexes (λ a has. among a (suc has.0, omega (arith, has.1), has.2)) z files o rest

filled_step : (f o : Bool) (x : Parts) (p : Output) (looks : Bool) (groups : List (List Location)) (retries : ℕ) → HaveStores groups → x.stores ≡ stores_of groups → (most : ℕ) (indexes : List (List ℕ)) → ((q : List ℕ) → Contains indexes q → Contains x.indexes q)
    → IsStep (behind p) (record { files = f; folders = false; dial = are_folders (stores_of groups) && are_files indexes; out = o }) x (IndexesFilled looks groups retries x.cache most indexes)
filled_step f o x p looks groups retries some are most indexes among = record {
  fair = λ w v r h. each_fair x p looks groups retries some are w v indexes among h.held h.now r h.filled;
  leaves = λ w v r h. record {
    keeps = record { files = λ t. h.adds.files; folders = λ t. absurd (cc); dial = h.undialed; out = λ t. refl };
    files = h.adds.counts;
    folders = h.adds.folder_counts;
    dial = h.dials;
    out = omega arith;
  };
}

-- after whose refusal a file is cleared
cleared_step : (f n o : Bool) (x : Parts) (p : Output) (q : List ℕ) (step : Step Storage Unit) → IsStep (behind p) (record { files = false; folders = f; dial = n; out = o }) x step → IsStep (behind p) (record { files = false; folders = f; dial = n; out = o }) x (Clearing q step)
cleared_step f n o x p q step is = record { fair = fair; leaves = leaves } where
  rest : (c : Disk) (v : Storage) → Writes c v.disk → IsLeft (record { files = false; folders = f; dial = n; out = o }) (behind p (storage c v.dial)) (behind p v)
  rest c v r = writes {f = f} {n = n} {o = o} (record { dial = v.dial; out = p }) r

  fair : (w v : Storage) (r : Outcome) → Clearing q step w (Err r) v → IsFair x r (behind p w) (behind p v)
  fair w v r (c, did, cleared) = fair_longer (behind p w) (behind p (storage c v.dial)) (behind p v) x r (is.leaves w (storage c v.dial) (Err r) did) (rest c v (wrote_on c v.disk q cleared.1)) (is.fair w (storage c v.dial) r did)

  leaves : (w v : Storage) (r : Result Unit Outcome) → Clearing q step w r v → IsLeft (record { files = false; folders = f; dial = n; out = o }) (behind p w) (behind p v)
  leaves w v (Ok t) h = is.leaves w v (Ok t) h
  leaves w v (Err r) (c, did, cleared) = left_twice (is.leaves w (storage c v.dial) (Err r) did) (rest c v (wrote_on c v.disk q cleared.1))

-- a step over files and folders alone
unasked_step : {A : Type 0} {s : Spares} {x : Parts} (p : Output) (step : Step Disk A) → ((q : Unread) → IsStep (round q) s x step) → IsStep (behind p) s x (NotAsking step)
unasked_step {A} {s} {x} p step k = record {
  fair = λ w v o h. subst (λ n. IsFair x o (behind p w) (world v.disk n p)) (sym h.1) ((k (record { dial = w.dial; out = p })).fair w.disk v.disk o h.0);
  leaves = λ w v r h. subst (λ n. IsLeft s (behind p w) (world v.disk n p)) (sym h.1) ((k (record { dial = w.dial; out = p })).leaves w.disk v.disk r h.0);
}

renamed_step : (f n o : Bool) (x : Parts) (p : Unread) (from to : List ℕ) → IsStep (round p) (record { files = false; folders = f; dial = n; out = o }) x (Renamed from to)
renamed_step f n o x p from to = record { fair = fair; leaves = leaves } where
  fair : (d e : Disk) (r : Outcome) → Renamed from to d (Err r) e → IsFair x r (round p d) (round p e)
  fair d e (ends.NoFile name) h = (tt, tt)
  fair d e (ends.FileFault name) h = (tt, inl (subst (λ n. FileRose d e n) (sym h.0.0) h.0.1))
  fair d e ends.Memory h = (tt, tt)
  fair d e other h = absurd h.0

  leaves : (d e : Disk) (r : Result Unit Outcome) → Renamed from to d r e → IsLeft (record { files = false; folders = f; dial = n; out = o }) (round p d) (round p e)
  leaves d e (Ok t) h = writes p (wrote_on d e to h.1)
  leaves d e (Err r) h = writes p (wrote_on d e to h.2)

out_step : (sure : NeverFail) (o : Bool) (x : Parts) (stores : ExtractStores) → HaveStores stores.groups → x.stores ≡ stores_of stores.groups → (cache : Option (List ℕ)) (l : Listing) (z : Seeds) (place : Bool) (out : List ℕ) → x.target ≡ cond place out (temporary_out out)
    → IsStep whole (record { files = false; folders = not (is_some cache); dial = are_folders (stores_of stores.groups); out = o }) x (OutMade sure place stores cache out l z)
out_step sure o x stores some are cache l z true out is = on_sources (λ p. assembled_step sure o x p stores some are cache l z (in_place out) (sym is))
out_step sure o x stores some are cache l z false out is =
    bound (on_sources (λ p. cleared_step _ _ o x p (temporary_out out) _ (assembled_step sure o x p stores some are cache l z (beside out) (sym is))))
    (λ u. on_sources (λ p. cleared_step _ _ o x p (temporary_out out) _ (unasked_step p _ (λ q. renamed_step _ _ o x q (temporary_out out) out))))

one_folder : (store : Location) → IsTrue (is_folder store) → IsTrue (are_folders (store ∷ []))
one_folder (locations.Folder q) t = refl
one_folder (locations.Http host port prefix) t = absurd (cc)

-- what a step leaves that writes a store
stocked : {o : Bool} {w v : Storage} {images : List (List ℕ)} (f : Bool) (p : Output) (store : Location) → WritesStore images store w v → IsLeft (record { files = f; folders = not (is_folder store); dial = is_folder store; out = o }) (behind p w) (behind p v)
stocked f p store r = record {
  keeps = record { files = λ t. r.adds.files; folders = r.folders; dial = λ t. r.dials.1 (one_folder store t); out = λ t. refl };
  files = r.adds.counts;
  folders = r.adds.folder_counts;
  dial = r.dials.0;
  out = omega arith;
}

module _ (x : Parts) (p : Output) (store : Location) (same : store_at x.stores 0 ≡ store) where
  first_rose : (w v : Storage) (k : ℕ) → k ≡ 0 → StoreRose w v store → StoreRose w v (store_at x.stores k)
  first_rose w v k is rose = subst (λ n. StoreRose w v (store_at x.stores n)) (sym is) (subst (λ s. StoreRose w v s) (sym same) rose)

  stored_step : (f o : Bool) (kind : DigestKind) (z : Sizes) (told : Option (List ℕ)) (held : Option (Map (List ℕ)))
      → IsStep (behind p) (record { files = f; folders = not (is_folder store); dial = is_folder store; out = o }) x (ImageStored kind z x.image told store held)
  stored_step f o kind z told held = record { fair = fair; leaves = leaves } where
    fair : (w v : Storage) (r : Outcome) → ImageStored kind z x.image told store held w (Err r) v → IsFair x r (behind p w) (behind p v)
    fair w v ends.TooManyItems h = (tt, tt)
    fair w v ends.ImageFault h = (tt, h.0.0)
    fair w v (ends.Changed k was got) h = (tt, tt)
    fair w v (ends.StoreFault k) h = (tt, first_rose w v k h.0.0 h.0.1)
    fair w v ends.Memory h = (tt, tt)
    fair w v other h = absurd h.0

    leaves : (w v : Storage) (r : Result (List ℕ) Outcome) → ImageStored kind z x.image told store held w r v → IsLeft (record { files = f; folders = not (is_folder store); dial = is_folder store; out = o }) (behind p w) (behind p v)
    leaves w v (Ok bytes) h = stocked f p store h.2
    leaves w v (Err r) h = stocked f p store h.1

  chopped_step : (f o : Bool) (l : Listing) (told : Option (List ℕ)) (held : Option (Map (List ℕ)))
      → IsStep (behind p) (record { files = f; folders = not (is_folder store); dial = is_folder store; out = o }) x (ImageChopped l x.image told store held)
  chopped_step f o l told held = record { fair = fair; leaves = leaves } where
    fair : (w v : Storage) (r : Outcome) → ImageChopped l x.image told store held w (Err r) v → IsFair x r (behind p w) (behind p v)
    fair w v (ends.Length n) h = (tt, tt)
    fair w v (ends.Mismatch k got) h = (tt, tt)
    fair w v ends.ImageFault h = (tt, h.0.1)
    fair w v (ends.StoreFault k) h = (tt, first_rose w v k h.0.0 h.0.2)
    fair w v ends.Memory h = (tt, tt)
    fair w v other h = absurd h.0

    leaves : (w v : Storage) (r : Result Unit Outcome) → ImageChopped l x.image told store held w r v → IsLeft (record { files = f; folders = not (is_folder store); dial = is_folder store; out = o }) (behind p w) (behind p v)
    leaves w v (Ok u) h = stocked f p store h.2
    leaves w v (Err r) h = stocked f p store h.1

written_step : (f n o : Bool) (x : Parts) (p : Unread) (q bytes : List ℕ) → IsStep (round p) (record { files = false; folders = f; dial = n; out = o }) x (IndexWritten q bytes)
written_step f n o x p q bytes = record { fair = written_fair (record { files = false; folders = f; dial = n; out = o }) x p q bytes; leaves = leaves } where
  leaves : (d e : Disk) (r : Result Unit Outcome) → IndexWritten q bytes d r e → IsLeft (record { files = false; folders = f; dial = n; out = o }) (round p d) (round p e)
  leaves d e (Ok u) h = writes p h.1
  leaves d e (Err r) h = writes p h.2

-- ---- the steps of `verify` and `prune`

verified_step : (n : Bool) (x : Parts) (kind : DigestKind) (q : List ℕ) (repair : Bool) (held : Option (Map (List ℕ))) → store_at x.stores 0 ≡ locations.Folder q → IsStep whole (record { files = true; folders = false; dial = n; out = false }) x (StoreVerified kind q repair held)
verified_step n x kind q repair held same = record { fair = fair; leaves = leaves } where
  left : (w v : World) → KeepsCounts w v → IsLeft (record { files = true; folders = false; dial = n; out = false }) w v
  left w v c = record { keeps = record { files = λ t. c.adds.files; folders = λ t. absurd (cc); dial = λ t. c.dial; out = λ t. absurd (cc) }; files = c.adds.counts; folders = c.adds.folder_counts; dial = dials_same w.dial v.dial c.dial; out = c.out }

  fair : (w v : World) (o : Outcome) → StoreVerified kind q repair held w (Err o) v → IsFair x o w v
  fair w v (ends.DamagedLeft n) h = (tt, tt)
  fair w v (ends.StoreFault k) h = (tt, subst (λ n. StoreRose (storage_of w) (storage_of v) (store_at x.stores n)) (sym h.0.0) (subst (λ s. StoreRose (storage_of w) (storage_of v) s) (sym same) h.0.1))
  fair w v ends.OutFault h = (tt, h.0.0)
  fair w v ends.Memory h = (tt, tt)
  fair w v other h = absurd h.0

  leaves : (w v : World) (r : Result Unit Outcome) → StoreVerified kind q repair held w r v → IsLeft (record { files = true; folders = false; dial = n; out = false }) w v
  leaves w v (Ok u) h = left w v h.1
  leaves w v (Err o) h = left w v h.1

pruned_step : (f n o : Bool) (x : Parts) (p : Unread) (keeps : List ℕ → Bool) (q : List ℕ) (held : Option (Map (List ℕ))) → store_at x.stores 0 ≡ locations.Folder q
    → IsStep (round p) (record { files = f; folders = false; dial = n; out = o }) x (StorePruned keeps q held)
pruned_step f n o x p keeps q held same = record { fair = fair; leaves = leaves } where
  fair : (d e : Disk) (r : Outcome) → StorePruned keeps q held d (Err r) e → IsFair x r (round p d) (round p e)
  fair d e (ends.StoreFault k) h = (tt, subst (λ n. StoreRose (storage_of (round p d)) (storage_of (round p e)) (store_at x.stores n)) (sym h.0.0) (subst (λ s. StoreRose (storage_of (round p d)) (storage_of (round p e)) s) (sym same) h.0.1))
  fair d e ends.Memory h = (tt, tt)
  fair d e other h = absurd h.0

  leaves : (d e : Disk) (r : Result Unit Outcome) → StorePruned keeps q held d r e → IsLeft (record { files = f; folders = false; dial = n; out = o }) (round p d) (round p e)
  leaves d e (Ok u) h = adds p h.1
  leaves d e (Err r) h = adds p h.1

-- ---- the steps of servers

unheard_step : (f n o : Bool) (x : Parts) (p : Unread) (h : Heard) (q : List ℕ) → IsStep (round p) (record { files = f; folders = false; dial = n; out = o }) x (TakenUnheard h q)
unheard_step f n o x p h q = record { fair = λ d e r t. (taken_step f n o x p [] q).fair d e r t.0; leaves = leaves } where
  leaves : (d e : Disk) (r : Result (Option (Map (List ℕ))) Outcome) → TakenUnheard h q d r e → IsLeft (record { files = f; folders = false; dial = n; out = o }) (round p d) (round p e)
  leaves d e (Ok held) t = (taken_step f n o x p [] q).leaves d e (Ok held) t
  leaves d e (Err r) t = (taken_step f n o x p [] q).leaves d e (Err r) t.0

served_step : (f n o : Bool) (x : Parts) (p : Unread) (h : Heard) (q : List ℕ) (held : Option (Map (List ℕ))) (served short : FolderServing) → x.listener ≡ (h.old.faults, h.new.faults)
    → IsStep (round p) (record { files = f; folders = false; dial = n; out = o }) x (FolderServed h q held served short)
served_step f n o x p h q held served short same = record { fair = fair; leaves = leaves } where
  fair : (d e : Disk) (r : Outcome) → FolderServed h q held served short d (Err r) e → IsFair x r (round p d) (round p e)
  fair d e ends.ListenFault t = (tt, subst (λ (y : ℕ × ℕ). Rose y.0 y.1) (sym same) t.0.0)
  fair d e ends.Memory t = (tt, tt)
  fair d e other t = absurd t.0

  leaves : (d e : Disk) (r : Result Unit Outcome) → FolderServed h q held served short d r e → IsLeft (record { files = f; folders = false; dial = n; out = o }) (round p d) (round p e)
  leaves d e (Ok u) t = adds p t.1
  leaves d e (Err r) t = adds p t.1

-- a step whose refusal nobody hears of
or_unheard_step : {W A : Type 0} {at : W → World} {s : Spares} {x : Parts} (h : Heard) (step : Step W A) → IsStep at s x step → IsStep at s x (OrUnheard h step)
or_unheard_step {W} {A} {at} {s} {x} h step k = record { fair = λ w v o t. k.fair w v o t.0; leaves = leaves } where
  leaves : (w v : W) (r : Result A Outcome) → OrUnheard h step w r v → IsLeft s (at w) (at v)
  leaves w v (Ok a) t = k.leaves w v (Ok a) t
  leaves w v (Err o) t = k.leaves w v (Err o) t.0

proxied_step : (x : Parts) (p : Output) (looks : LookTypes) (h : Heard) (groups : List (List Location)) (e : ℕ) (cache : List ℕ) (kind : DigestKind) (in_turn : Bool) → x.listener ≡ (h.old.faults, h.new.faults)
    → IsStep (behind p) (record { files = true; folders = false; dial = are_folders (stores_of groups); out = true }) x (ProxyServed looks h groups e cache kind in_turn)
proxied_step x p looks h groups e cache kind in_turn same = record {
  fair = λ w v o t. fair w v o _ _ t.serving.served;
  leaves = λ w v r t. record {
    keeps = record { files = λ y. t.adds.files; folders = λ y. absurd (cc); dial = t.undialed; out = λ y. refl };
    files = t.adds.counts;
    folders = t.adds.folder_counts;
    dial = t.dials;
    out = omega arith;
  };
} where
  fair : (w v : Storage) (o : Outcome) (s : Supply) (sure : Surely) → ServesProxyTo kind h s sure in_turn (Err o) → IsFair x o (behind p w) (behind p v)
  fair w v ends.ListenFault s sure t = (tt, subst (λ (y : ℕ × ℕ). Rose y.0 y.1) (sym same) t.0)
  fair w v ends.Memory s sure t = (tt, tt)
  fair w v other s sure t = absurd t

judged_fair : (x : Parts) (sizes : List ℕ) (o : Outcome) (w v : World) → SizesJudged sizes (Err o) → IsFair x o w v
judged_fair x sizes (ends.Sizes fault) w v h = (tt, tt)
judged_fair x sizes other w v h = absurd h

rehearsed_fair : (x : Parts) (kind : DigestKind) (number size : ℕ) (o : Outcome) (w v : World) → Rehearsed kind number size (Err o) → IsFair x o w v
rehearsed_fair x kind number size (ends.Mismatch k got) w v h = (tt, tt)
rehearsed_fair x kind number size ends.Memory w v h = (tt, tt)
rehearsed_fair x kind number size other w v h = absurd h

-- ---- the commands

-- a step that spares the dialer spares it where more is wanted for that
dial_less : {W A : Type 0} {at : W → World} {s : Spares} {d : Bool} {x : Parts} {step : W → Result A Outcome → W → Type 0} → (IsTrue d → IsTrue s.dial) → IsStep at s x step → IsStep at (record { files = s.files; folders = s.folders; dial = d; out = s.out }) x step
dial_less {W} {A} {at} {s} {d} {x} {step} on k = record { fair = k.fair; leaves = leaves } where
  leaves : (w v : W) (r : Result A Outcome) → step w r v → IsLeft (record { files = s.files; folders = s.folders; dial = d; out = s.out }) (at w) (at v)
  leaves w v r h = let left = k.leaves w v r h in record {
    keeps = record { files = left.keeps.files; folders = left.keeps.folders; dial = λ t. left.keeps.dial (on t); out = left.keeps.out };
    files = left.files;
    folders = left.folders;
    dial = left.dial;
    out = left.out;
  }

-- the operand of a command that has one index
the_one : (q : List ℕ) → Contains (q ∷ []) q
the_one q = (0, omega arith, refl)

first : (a b : Bool) → IsTrue (a && b) → IsTrue a
first true b t = refl
first false b t = absurd (cc)

second : (a b : Bool) → IsTrue (a && b) → IsTrue b
second true b t = t
second false b t = absurd (cc)

command_step : (sure : SureTypes) (h : Heard) (c : Command) → Fits c → IsStep whole (spares c) (parts h c) (CommandEnds sure h c)
command_step sure h (commands.Make store sizes workers digest index image) f = bound (pure_step (SizesJudged sizes) (judged_fair (parts h (commands.Make store sizes workers digest index image)) sizes)) (λ z. bound (on_disk (λ p. image_step _ _ p)) (λ told. bound (on_disk (λ p. source_taken_step _ _ _ _ p _ store)) (λ held. bound (on_sources (λ p. stored_step _ p store refl _ _ digest z told held)) (λ bytes. on_disk (λ p. written_step _ _ _ _ p index bytes)))))
command_step sure h (commands.VerifyIndex workers index image) f = bound (on_sources (λ p. got_step p index (the_one index) (λ t. t))) (λ l. bound (on_disk (λ p. image_step _ _ p)) (λ told. on_disk (λ p. checked_step _ _ p l told)))
command_step sure h (commands.Chop store workers index image) f = bound (on_sources (λ p. got_step p index (the_one index) (second (is_folder store) (is_file index)))) (λ l. bound (on_disk (λ p. image_step _ _ p)) (λ told. bound (on_disk (λ p. source_taken_step _ _ _ _ p _ store)) (λ held. on_sources (λ p. dial_less (first (is_folder store) (is_file index)) (chopped_step _ p store refl _ _ l told held)))))
command_step sure h (commands.Cache stores retries cache workers indexes) f = bound (on_disk (λ p. sources_step _ _ p (stores_of stores))) (λ u. bound (on_disk (λ p. cache_step _ _ p (stores_of stores) (Some cache))) (λ u. on_sources (λ p. filled_step _ _ (parts h (commands.Cache stores retries cache workers indexes)) p sure.looks.never_fail stores retries f.1.0 refl workers indexes (λ q has. has))))
command_step sure h (commands.ListChunks index) f = bound (on_sources (λ p. got_step p index (the_one index) (λ t. t))) (λ l. on_out (λ d. printed_step _ _ _ _ d (text_of_chunks l)))
command_step sure h (commands.Extract stores retries seeds cache in_place workers index target) f = bound (on_sources (λ p. got_step p index (the_one index) (second (are_folders (stores_of stores)) (is_file index)))) (λ l. bound (on_disk (λ p. indexes_step _ _ p seeds)) (λ ls. bound (on_disk (λ p. sources_step _ _ p (stores_of stores))) (λ u. bound (on_disk (λ p. cache_step _ _ p (stores_of stores) cache)) (λ u. dial_less (first (are_folders (stores_of stores)) (is_file index)) (out_step (never_fail sure.target h.never_fails) _ (parts h (commands.Extract stores retries seeds cache in_place workers index target)) (record { groups = stores; retries = retries; sure = sure.looks.never_fail }) f.1.0 refl cache l (record { images = map image_name seeds; listings = ls }) in_place target refl)))))
command_step sure h (commands.Cat stores retries offset length index) f = bound (on_sources (λ p. got_step p index (the_one index) (second (are_folders (stores_of stores)) (is_file index)))) (λ l. bound (on_disk (λ p. sources_step _ _ p (stores_of stores))) (λ u. dial_less (first (are_folders (stores_of stores)) (is_file index)) (put_step (parts h (commands.Cat stores retries offset length index)) sure.looks.never_fail stores retries f.1.0 refl l offset (range_size l offset length))))
command_step sure h (commands.Info stores retries index) f = bound (on_sources (λ p. got_step p index (the_one index) (second (are_folders (stores_of stores)) (is_file index)))) (λ l. bound (on_sources (λ p. counted_step _ _ p sure.looks.never_fail stores retries f.0.0 refl (first (are_folders (stores_of stores)) (is_file index)) l)) (λ n. on_out (λ d. printed_step _ _ _ _ d (text_of_info l n))))
command_step sure h (commands.Verify store repair workers digest) f = bound (on_disk (λ p. taken_step _ _ _ _ p [] store)) (λ held. verified_step _ _ digest store repair held refl)
command_step sure h (commands.Prune store indexes) f = bound (indexes_got_step 0 indexes (λ q has. has) (λ t. t)) (λ ls. bound (on_disk (λ p. taken_step _ _ _ _ p [] store)) (λ held. on_disk (λ p. pruned_step _ _ _ _ p (is_listed_in ls) store held refl)))
command_step sure h (commands.Demo number size workers digest) f = bound (pure_step (Rehearsed digest number size) (rehearsed_fair (parts h (commands.Demo number size workers digest)) digest number size)) (λ f. on_out (λ d. printed_step _ _ _ _ d (text_of_figures f)))
command_step sure h commands.Help f = on_out (λ d. printed_step _ _ _ _ d (help_text topics.All))
command_step sure h commands.Version f = on_out (λ d. printed_step _ _ _ _ d (help_text topics.Version))
command_step sure h (commands.HelpOn kind) f = on_out (λ d. printed_step _ _ _ _ d (help_text (topics.Command kind)))
command_step sure h (commands.ChunkServer store host port writable workers digest) f = bound (on_disk (λ p. unheard_step _ _ _ _ p h store)) (λ held. on_disk (λ p. served_step _ _ _ _ p h store held _ _ refl))
command_step sure h (commands.Proxy stores retries cache host port workers digest) f = bound (on_disk (λ p. or_unheard_step h _ (sources_step _ _ p (stores_of stores)))) (λ u. bound (on_disk (λ p. or_unheard_step h _ (cache_step _ _ p (stores_of stores) (Some cache)))) (λ u. on_sources (λ p. proxied_step _ p sure.looks h stores retries cache digest _ refl)))
command_step sure h (commands.IndexServer store host port writable) f = bound (on_disk (λ p. unheard_step _ _ _ _ p h store)) (λ held. on_disk (λ p. served_step _ _ _ _ p h store held _ _ refl))

-- a command that listens is none that doesn't
pub none_such : {A : Type 0} → true ≡ false → A
none_such h = absurd (cc)

-- ---- what the top call says

-- the command began where the words were read
pub begun : (sure : SureTypes) (k : Heard) (words : List (List ℕ)) (w v : World) (r : Result Unit Outcome) → Passed (WordsRead words) (CommandEnds sure k) w r v → (c : Command) × (command_of words ≡ Some c) × CommandEnds sure k c w r v × Fits c
begun sure k words w v r h = (h.gave, h.did.0, subst (λ u. CommandEnds sure k h.gave u r v) h.did.2 h.then, h.did.1)

pub if_some : {X : Type 0} (o : Option X) (P : X → Type 0) (x : X) → o ≡ Some x → P x → IfSome o P
if_some o P x is p = subst (λ r. IfSome r P) (sym is) p

pub if_any : {X : Type 0} (o : Option X) (P : X → Type 0) → ((x : X) → P x) → IfSome o P
if_any None P f = tt
if_any (Some x) P f = f x

-- a command that is done fits
pub done_fits : (sure : SureTypes) (k : Heard) (words : List (List ℕ)) (w v : World) (o : Outcome) → DesyncEnds sure k words w (answer_of o) v → o ≡ ends.Done → IfSome (command_of words) Fits
done_fits sure k words w v o h done =
    let ended : DesyncEnds sure k words w (Ok tt) v = subst (λ e. DesyncEnds sure k words w (answer_of e) v) done h in
    if_some (command_of words) Fits ended.gave ended.did.0 ended.did.1

as_answer : (o : Outcome) → IsRefusal o → answer_of o ≡ Err o
as_answer ends.Done h = absurd h
as_answer (ends.Usage place why) h = absurd h
as_answer other h = refl

words_answer : (words : List (List ℕ)) (o : Outcome) → NoCommand words o → answer_of o ≡ Err o
words_answer words ends.Done h = absurd h
words_answer words other h = refl

answer_is : (sure : SureTypes) (k : Heard) (words : List (List ℕ)) (w v : World) (o : Outcome) → DesyncEnds sure k words w (Err o) v → answer_of o ≡ Err o
answer_is sure k words w v o (inl h) = words_answer words o h.0
answer_is sure k words w v o (inr h) = as_answer o ((command_step sure k h.gave h.did.1).fair (between h) v o h.then).0

pub answered : (sure : SureTypes) (k : Heard) (words : List (List ℕ)) (w v : World) (r : Result Unit Outcome) → DesyncEnds sure k words w r v → DesyncEnds sure k words w (answer_of (outcome_of r)) v
answered sure k words w v (Ok u) h = h
answered sure k words w v (Err o) h = subst (λ (r : Result Unit Outcome). DesyncEnds sure k words w r v) (sym (answer_is sure k words w v o h)) h

pub kept : (sure : SureTypes) (k : Heard) (words : List (List ℕ)) (w v : World) (r : Result Unit Outcome) → DesyncEnds sure k words w r v → IfSome (command_of words) (λ c. Keeps (spares c) w v)
kept sure k words w v (Ok u) h = let b = begun sure k words w v (Ok u) h in if_some (command_of words) _ b.0 b.1 ((command_step sure k b.0 b.3).leaves w v (Ok u) b.2).keeps
kept sure k words w v (Err o) (inl h) = if_any (command_of words) _ (λ c. subst (λ u. Keeps (spares c) w u) (sym h.1) (record { files = λ t. refl; folders = λ t. refl; dial = λ t. refl; out = λ t. refl }))
kept sure k words w v (Err o) (inr h) = let b = begun sure k words w v (Err o) h in if_some (command_of words) _ b.0 b.1 ((command_step sure k b.0 b.3).leaves w v (Err o) b.2).keeps

words_blame : (words : List (List ℕ)) (x : Parts) (w v : World) (o : Outcome) → NoCommand words o → Blames x o w v
words_blame words x w v (ends.Usage place why) h = tt
words_blame words x w v ends.Memory h = tt
words_blame words x w v other h = absurd h

pub blamed : (sure : SureTypes) (k : Heard) (words : List (List ℕ)) (w v : World) (r : Result Unit Outcome) → DesyncEnds sure k words w r v → IfSome (command_of words) (λ c. Blames (parts k c) (outcome_of r) w v)
blamed sure k words w v (Ok u) h = if_any (command_of words) _ (λ c. tt)
blamed sure k words w v (Err o) (inl h) = if_any (command_of words) _ (λ c. words_blame words (parts k c) w v o h.0)
blamed sure k words w v (Err o) (inr h) = let b = begun sure k words w v (Err o) h in if_some (command_of words) _ b.0 b.1 ((command_step sure k b.0 b.3).fair w v o b.2).1

-- a store hasn't failed where no count rose and its replies were taken
store_quiet : (w v : World) → NoFault w v → (s : Location) → RepliesTaken w v s → StoreRose (storage_of w) (storage_of v) s → ⊥
store_quiet w v n (locations.Folder q) taken rose = rose_not_quiet (count_at w.disk.folder_counts q) (count_at w.disk.folder_counts q) (count_at v.disk.folder_counts q) (omega arith) rose (n.disk.folders q)
store_quiet w v n (locations.Http host port prefix) taken (inl rose) = rose_not_quiet w.dial.faults w.dial.faults v.dial.faults (omega arith) rose n.dial
store_quiet w v n (locations.Http host port prefix) taken (inr bad) = over (since w.dial.ended v.dial.ended) taken bad where
  over : (o : Option (List Traffic)) → IsSomeAnd o (λ ended. Any (IsUnacceptable (server_at host port prefix)) ended → ⊥) → IfSome o (Any (IsUnacceptable (server_at host port prefix))) → ⊥
  over None t b = absurd t
  over (Some ended) t b = t b

-- the store of a number is one of them, or no server
numbered : (w v : World) (names : List Location) (k : ℕ) → All (RepliesTaken w v) names → RepliesTaken w v (store_at names k)
numbered w v [] k all = tt
numbered w v (q ∷ names) zero all = all 0 q (omega arith)
numbered w v (q ∷ names) (suc k) all = numbered w v names k (λ j y lt. all (suc j) y (omega (arith, lt)))

-- nor has a server's reply to the ask for an index not been taken
index_quiet : (w v : World) → NoFault w v → (p : Result IndexPlace NoLocation) → FetchTaken w v p → IndexRose w.dial v.dial p → ⊥
index_quiet w v n (Ok (places.File name)) taken rose = rose
index_quiet w v n (Ok (places.Http host port path)) taken (inl rose) = rose_not_quiet w.dial.faults w.dial.faults v.dial.faults (omega arith) rose n.dial
index_quiet w v n (Ok (places.Http host port path)) taken (inr bad) = over (since w.dial.ended v.dial.ended) taken bad where
  over : (o : Option (List Traffic)) → IsSomeAnd o (λ ended. Any (IsUnfetched host port path) ended → ⊥) → IfSome o (Any (IsUnfetched host port path)) → ⊥
  over None t b = absurd t
  over (Some ended) t b = t b
index_quiet w v n (Err why) taken rose = rose

quiet : (x : Parts) (w v : World) (o : Outcome) → NoFault w v → Quiet x.listener.0 x.listener.1 → All (RepliesTaken w v) x.stores × All (IndexTaken w v) x.indexes → Blames x o w v → NothingFailed o
quiet x w v o n heard taken h = go o h where
  file : (q : List ℕ) → FileRose w.disk v.disk q → ⊥
  file q rose = rose_not_quiet (count_at w.disk.file_counts q) (count_at w.disk.file_counts q) (count_at v.disk.file_counts q) (omega arith) rose (n.disk.files q)

  folder : (q : List ℕ) → FolderRose w.disk v.disk q → ⊥
  folder q rose = rose_not_quiet (count_at w.disk.folder_counts q) (count_at w.disk.folder_counts q) (count_at v.disk.folder_counts q) (omega arith) rose (n.disk.folders q)

  go : (o : Outcome) → Blames x o w v → NothingFailed o
  go ends.ImageFault r = file x.image r
  go (ends.StoreFault s) r = store_quiet w v n (store_at x.stores s) (numbered w v x.stores s taken.0) r
  go ends.TargetFault r = file x.target r
  go ends.CacheFault r = folder x.cache r
  go (ends.FileFault name) (inl r) = file name r
  go (ends.FileFault name) (inr (inl r)) = folder name r
  go (ends.FileFault name) (inr (inr r)) = index_quiet w v n (index_place_of name) (subst (IndexTaken w v) r.0.2 (taken.1 r.0.0 name r.0.1)) r.1
  go ends.OutFault r = rose_not_quiet w.out.faults w.out.faults v.out.faults (omega arith) r n.out
  go ends.ListenFault r = rose_not_quiet x.listener.0 x.listener.0 x.listener.1 (omega arith) r heard
  go other r = tt

words_quiet : (words : List (List ℕ)) (o : Outcome) → NoCommand words o → NothingFailed o
words_quiet words (ends.Usage place why) h = tt
words_quiet words ends.Memory h = tt
words_quiet words other h = absurd h

-- a listener that isn't used hasn't failed
quiet_listener : (k : Heard) (c : Command) → Quiet k.old.faults k.new.faults → Quiet (parts k c).listener.0 (parts k c).listener.1
quiet_listener k (commands.ChunkServer store host port writable workers digest) h = h
quiet_listener k (commands.Proxy stores retries cache host port workers digest) h = h
quiet_listener k (commands.IndexServer store host port writable) h = h
quiet_listener k other h = record { same = omega arith; below = omega arith }

pub nothing_failed : (sure : SureTypes) (k : Heard) (words : List (List ℕ)) (w v : World) (r : Result Unit Outcome) → DesyncEnds sure k words w r v → NoFault w v → Quiet k.old.faults k.new.faults → IfSome (command_of words) (λ c. All (RepliesTaken w v) (parts k c).stores × All (IndexTaken w v) (parts k c).indexes) → NothingFailed (outcome_of r)
nothing_failed sure k words w v (Ok u) h n heard taken = tt
nothing_failed sure k words w v (Err o) (inl h) n heard taken = words_quiet words o h.0
nothing_failed sure k words w v (Err o) (inr h) n heard taken =
    let b = begun sure k words w v (Err o) h in
    quiet (parts k b.0) w v o n (quiet_listener k b.0 heard) (subst (λ c. IfSome c (λ c. All (RepliesTaken w v) (parts k c).stores × All (IndexTaken w v) (parts k c).indexes)) b.1 taken) ((command_step sure k b.0 b.3).fair w v o b.2).1

unrefused : (r : Result Command WordsFault) (c : Command) → command_said r ≡ Some c → refusal_in r ≡ None
unrefused (Ok d) c h = refl
unrefused (Err e) c h = absurd (cc)

words_tell : (words : List (List ℕ)) (o : Outcome) → NoCommand words o → TellsRefusal (usage_refusal words) o
words_tell words (ends.Usage place why) h = h
words_tell words ends.Memory h = tt
words_tell words other h = absurd h

command_tells : (words : List (List ℕ)) (o : Outcome) → IsRefusal o → usage_refusal words ≡ None → TellsRefusal (usage_refusal words) o
command_tells words (ends.Usage place why) r h = absurd r
command_tells words ends.Memory r h = tt
command_tells words other r h = h

pub tells_refusal : (sure : SureTypes) (k : Heard) (words : List (List ℕ)) (w v : World) (r : Result Unit Outcome) → DesyncEnds sure k words w r v → TellsRefusal (usage_refusal words) (outcome_of r)
tells_refusal sure k words w v (Ok u) h = unrefused (command_line words) h.gave h.did.0
tells_refusal sure k words w v (Err o) (inl h) = words_tell words o h.0
tells_refusal sure k words w v (Err o) (inr h) = command_tells words o ((command_step sure k h.gave h.did.1).fair (between h) v o h.then).0 (unrefused (command_line words) h.gave h.did.0)
