-- How a command reads where nothing fails: each step that only reads finds what is there, or ends the command so.
use Rattle.std.proofs.Common.{ap, arith, ◌⊎◌, ◌&&◌, Bool, true, false, zero, suc, ◌≡◌, ◌∙◌, ℕ, ◌+◌, ◌<◌, ◌≤◌, List, [], ◌∷◌, map, Option, Some, None, IfSome, IsSome, IsTrue, refl, subst, sym, inl, inr, Result, Ok, Err}
use Rattle.std.specs.List.{All}
use Rattle.std.specs.Map.{count_at}
use Rattle.std.specs.Option.{option_map}
use Rattle.std.specs.Prelude.{MatchOption, MatchResult}
use Rattle.caibx_codec.proofs.Again.{file_read}
use Rattle.caibx_codec.specs.Listing.{Listing, count_of}
use Rattle.caibx_codec.specs.Reading.{index_in}
use Rattle.command_outcome.specs.declared.outcome.Outcome.{Outcome}
use Rattle.command_outcome.specs.declared.outcome.Outcome.TheVariants as ends
use Rattle.command_steps.proofs.Numbers.{rose_not_quiet}
use Rattle.command_steps.proofs.Cached.{cache_reads}
use Rattle.command_steps.specs.Cache.{CacheOpened}
use Rattle.command_indexes.proofs.Got.{got_file}
use Rattle.command_indexes.specs.Gets.{IndexGot, IndexesGot}
use Rattle.command_indexes.specs.Places.{are_files, is_file}
use Rattle.command_steps.proofs.SeedsRead.{all_later}
use Rattle.command_steps.specs.InputFiles.{ImageOpened, IsBad, IsListed, Listed, NotOpened, NotRead}
use Rattle.command_steps.specs.Seeds.{AllListed, CountedWith, IndexesRead, NoneListed, items_with}
use Rattle.command_steps.specs.Sources.{FirstUnreached, IsThere, OnStorage, SourcesOpened, Storage, StoreRose, Unreached, location_files, storage_of}
use Rattle.command_steps.specs.Stores.{NotReached, StoreTaken, are_folders}
use Rattle.command_words.specs.declared.command.Location.{Location}
use Rattle.command_words.specs.declared.command.Location.TheVariants as locations
use Rattle.command_worlds.specs.Steps.{◌>>=◌, outcome_of}
use Rattle.command_worlds.specs.Worlds.{DiskQuiet, FileRose, FolderRose, OnDisk, Pure, Reads, Step, World, world}
use Rattle.desync_cli.specs.Contents.{Contents, Ending, HasContents, Unchanged, folder_at, folders_at, image_at, index_at, indexes_at}
use Rattle.dsy_base.specs.Counts.{Quiet}
use Rattle.dsy_base.specs.Disk.{Disk}
use Rattle.dsy_base.specs.Maps.{Map, at_name}
use Rattle.extract_command.specs.Extract.{folder_of}
use Rattle.extract_plan.specs.Places.{seed_item_limit}
use Rattle.store_chain.specs.Lists.{FirstAt}

-- ---- a point in a command

-- the world between tells these still, and no number has fallen since the world before
pub record IsAt (x : Contents) (w u : World) : Type 0 where
  pub has : HasContents u x
  pub files : (q : List ℕ) → count_at w.disk.file_counts q ≤ count_at u.disk.file_counts q
  pub folders : (q : List ℕ) → count_at w.disk.folder_counts q ≤ count_at u.disk.folder_counts q
  pub out : w.out.faults ≤ u.out.faults

pub at_first : (x : Contents) (w : World) → HasContents w x → IsAt x w w
at_first x w has = record { has = has; files = λ q. omega arith; folders = λ q. omega arith; out = omega arith }

pub at_read : (x : Contents) (w u e : World) → IsAt x w u → Reads u.disk e.disk → e.out ≡ u.out → IsAt x w e
at_read x w u e at reads out = record {
  has = record { files = reads.files ∙ at.has.files; folders = reads.folders ∙ at.has.folders; printed = ap (λ o. o.taken) out ∙ at.has.printed };
  files = λ q. omega (arith, at.files q, reads.counts q);
  folders = λ q. omega (arith, at.folders q, reads.folder_counts q);
  out = let same = ap (λ o. o.faults) out in omega (arith, same, at.out);
}

-- no call on files, folders and the output has failed
pub record IsQuiet (w v : World) : Type 0 where
  pub disk : DiskQuiet w.disk v.disk
  pub out : Quiet w.out.faults v.out.faults

-- nor has one from there to the end
pub file_unrisen : (x : Contents) (w u v : World) → IsAt x w u → IsQuiet w v → (q : List ℕ) → FileRose u.disk v.disk q → ⊥
file_unrisen x w u v at quiet q rose = rose_not_quiet (count_at w.disk.file_counts q) (count_at u.disk.file_counts q) (count_at v.disk.file_counts q) (at.files q) rose (quiet.disk.files q)

pub folder_unrisen : (x : Contents) (w u v : World) → IsAt x w u → IsQuiet w v → (q : List ℕ) → FolderRose u.disk v.disk q → ⊥
folder_unrisen x w u v at quiet q rose = rose_not_quiet (count_at w.disk.folder_counts q) (count_at u.disk.folder_counts q) (count_at v.disk.folder_counts q) (at.folders q) rose (quiet.disk.folders q)

-- no store is named as failed
pub none_failed : (lacks rest : Location → Type 0) (w v : Storage) → ((q : List ℕ) → FolderRose w.disk v.disk q → ⊥) → (n : ℕ) (stores : List Location) → IsTrue (are_folders stores) → FirstAt lacks (StoreRose w v) rest n stores → ⊥
none_failed lacks rest w v none n [] all h = absurd h
none_failed lacks rest w v none n (locations.Http host port prefix ∷ stores) all h = let no : false ≡ true = all in absurd (cc)
none_failed lacks rest w v none zero (locations.Folder q ∷ stores) all h = none q h.0
none_failed lacks rest w v none (suc n) (locations.Folder q ∷ stores) all h = none_failed lacks rest w v none n stores all h.1

-- ---- how it ends

-- the outcome and what stands afterwards are as the ending says, or there was no memory
abbrev pub EndsSo : Contents → World → Ending → Outcome → Type 0
EndsSo x v ending o = (o ≡ ends.Memory) ⊎ ((y : Contents) × HasContents v y × ending x o y)

-- the same ending of another reading
pub ends_as : (x : Contents) (v : World) (a b : Ending) (o : Outcome) → ((y : Contents) → a x o y → b x o y) → EndsSo x v a o → EndsSo x v b o
ends_as x v a b o on (inl none) = inl none
ends_as x v a b o on (inr (y, has, ends)) = inr (y, has, on y ends)

-- a step refused, or what follows on what it gave ended the command
pub bound_so : {A : Type 0} (step : Step World A) (next : A → Step World Unit) (P : Outcome → Type 0) (u v : World)
    → ((o : Outcome) → step u (Err o) v → P o) → ((a : A) (e : World) (r : Result Unit Outcome) → step u (Ok a) e → next a e r v → P (outcome_of r))
    → (r : Result Unit Outcome) → (step >>= next) u r v → P (outcome_of r)
bound_so step next P u v refused passed (Ok b) h = passed h.gave (world h.disk h.dial h.out) (Ok b) h.did h.then
bound_so step next P u v refused passed (Err o) (inl h) = refused o h
bound_so step next P u v refused passed (Err o) (inr h) = passed h.gave (world h.disk h.dial h.out) (Err o) h.did h.then

pub both_files : (a b : Bool) → IsTrue (a && b) → IsTrue a × IsTrue b
both_files true b t = (refl, t)
both_files false b t = absurd (cc)

-- ---- what is there, and what isn't

pub some_not : {X : Type 0} (o : Option X) → IsSome o → (x : X) × (o ≡ Some x)
some_not None there = let no : false ≡ true = there in absurd (cc)
some_not (Some x) there = (x, refl)

-- what follows on an index, where more of these names do
abbrev then_more : ℕ → List (List ℕ) → (List Listing → Ending) → Listing → Ending
then_more n names next l x o y = ((seed_item_limit < n + count_of l) × Unchanged ends.TooManyItems x o y)
    ⊎ ((n + count_of l ≤ seed_item_limit) × indexes_at (n + count_of l) names (λ ls. next (l ∷ ls)) x o y)

module _ (x : Contents) where
  pub image_there : (q t : List ℕ) (next : List ℕ → Ending) (o : Outcome) (y : Contents) → x.files q ≡ Some t → next t x o y → image_at q next x o y
  image_there q t next o y there h = subst (λ f. MatchOption f (Unchanged (ends.NoFile q) x o y) (λ t. next t x o y)) (sym there) h

  image_gone : (q : List ℕ) (next : List ℕ → Ending) → x.files q ≡ None → image_at q next x (ends.NoFile q) x
  image_gone q next gone = subst (λ f. MatchOption f (Unchanged (ends.NoFile q) x (ends.NoFile q) x) (λ t. next t x (ends.NoFile q) x)) (sym gone) (refl, refl)

  pub folder_there : (q : List ℕ) (f : Map (List ℕ)) (next : Map (List ℕ) → Ending) (o : Outcome) (y : Contents) → x.folders q ≡ Some f → next f x o y → folder_at q next x o y
  folder_there q f next o y there h = subst (λ f. MatchOption f (Unchanged (ends.NoFolder q) x o y) (λ f. next f x o y)) (sym there) h

  folder_gone : (q : List ℕ) (next : Map (List ℕ) → Ending) → x.folders q ≡ None → folder_at q next x (ends.NoFolder q) x
  folder_gone q next gone = subst (λ f. MatchOption f (Unchanged (ends.NoFolder q) x (ends.NoFolder q) x) (λ f. next f x (ends.NoFolder q) x)) (sym gone) (refl, refl)

  pub index_there : (q : List ℕ) (l : Listing) (next : Listing → Ending) (o : Outcome) (y : Contents) → IsListed x.files q l → next l x o y → index_at q next x o y
  index_there q l next o y is h =
      subst (λ f. MatchOption f (Unchanged (ends.NoFile q) x o y) (λ b. MatchResult (index_in b) (λ l. next l x o y) (λ fault. Unchanged (ends.BadIndex q fault) x o y))) (sym is.there)
      (subst (λ r. MatchResult r (λ l. next l x o y) (λ fault. Unchanged (ends.BadIndex q fault) x o y)) (sym (file_read is.bytes l is.file)) h)

  -- an index that isn't there, or is none
  pub index_unread : (d e : Disk) → d.files ≡ Some x.files → ((q : List ℕ) → FileRose d e q → ⊥) → (q : List ℕ) (o : Outcome) → NotRead d e q o → (o ≡ ends.Memory) ⊎ ((next : Listing → Ending) → index_at q next x o x)
  index_unread d e files none q (ends.NoFile name) h =
      let gone : x.files q ≡ None = subst (λ f. IfSome f (λ m. m q ≡ None)) files h.1 in
      inr (λ next. subst (λ n. index_at q next x (ends.NoFile n) x) (sym h.0)
      (subst (λ f. MatchOption f (Unchanged (ends.NoFile q) x (ends.NoFile q) x) (λ b. MatchResult (index_in b) (λ l. next l x (ends.NoFile q) x) (λ fault. Unchanged (ends.BadIndex q fault) x (ends.NoFile q) x))) (sym gone) (refl, refl)))
  index_unread d e files none q (ends.BadIndex name fault) h =
      let bad : (b : List ℕ) × (x.files q ≡ Some b) × IsBad b fault = subst (λ f. IfSome f (λ m. (b : List ℕ) × (m q ≡ Some b) × IsBad b fault)) files h.1 in
      let o : Outcome = ends.BadIndex q fault in
      inr (λ next. subst (λ n. index_at q next x (ends.BadIndex n fault) x) (sym h.0)
      (subst (λ f. MatchOption f (Unchanged (ends.NoFile q) x o x) (λ b. MatchResult (index_in b) (λ l. next l x o x) (λ fault. Unchanged (ends.BadIndex q fault) x o x))) (sym bad.1)
      (subst (λ r. MatchResult r (λ l. next l x o x) (λ fault. Unchanged (ends.BadIndex q fault) x o x)) (sym bad.2.first) (refl, refl))))
  index_unread d e files none q (ends.FileFault name) h = absurd (none q h.1)
  index_unread d e files none q ends.Memory h = inl refl
  index_unread d e files none q other h = absurd h

  image_unread : (d e : Disk) → d.files ≡ Some x.files → ((q : List ℕ) → FileRose d e q → ⊥) → (q : List ℕ) (o : Outcome) → NotOpened d e q o → (o ≡ ends.Memory) ⊎ ((next : List ℕ → Ending) → image_at q next x o x)
  image_unread d e files none q (ends.NoFile name) h =
      let gone : x.files q ≡ None = subst (λ f. IfSome f (λ m. m q ≡ None)) files h.1 in
      inr (λ next. subst (λ n. image_at q next x (ends.NoFile n) x) (sym h.0) (image_gone q next gone))
  image_unread d e files none q ends.ImageFault h = absurd (none q h)
  image_unread d e files none q ends.Memory h = inl refl
  image_unread d e files none q other h = absurd h

  pub folder_unreached : (d e : Disk) → d.folders ≡ Some x.folders → ((q : List ℕ) → FolderRose d e q → ⊥) → (q : List ℕ) (o : Outcome) → NotReached d e q o → (o ≡ ends.Memory) ⊎ ((next : Map (List ℕ) → Ending) → folder_at q next x o x)
  folder_unreached d e folders none q (ends.NoFolder name) h =
      let gone : x.folders q ≡ None = subst (λ f. IfSome f (λ m. m q ≡ None)) folders h.1 in
      inr (λ next. subst (λ n. folder_at q next x (ends.NoFolder n) x) (sym h.0) (folder_gone q next gone))
  folder_unreached d e folders none q (ends.FileFault name) h = absurd (none q h.1)
  folder_unreached d e folders none q ends.Memory h = inl refl
  folder_unreached d e folders none q other h = absurd h

  -- the first store whose folder isn't there
  pub folders_unreached : (d e : Disk) → d.folders ≡ Some x.folders → ((q : List ℕ) → FolderRose d e q → ⊥) → (stores : List Location) (o : Outcome) → IsTrue (are_folders stores) → FirstUnreached d e stores o → (o ≡ ends.Memory) ⊎ ((next : List (Map (List ℕ)) → Ending) → folders_at stores next x o x)
  folders_unreached d e folders none [] o all h = absurd h
  folders_unreached d e folders none (locations.Http host port prefix ∷ stores) o all h = let no : false ≡ true = all in absurd (cc)
  folders_unreached d e folders none (locations.Folder q ∷ stores) o all (inl h) = first o h where
    first : (o : Outcome) → Unreached d e (locations.Folder q) o → (o ≡ ends.Memory) ⊎ ((next : List (Map (List ℕ)) → Ending) → folders_at (locations.Folder q ∷ stores) next x o x)
    first ends.Memory h = inl refl
    first o h = elim (folder_unreached d e folders none q o h) [ inl none ↦ inl none | inr ends ↦ inr (λ next. ends (λ f. folders_at stores (λ fs. next (f ∷ fs)))) ]
  folders_unreached d e folders none (locations.Folder q ∷ stores) o all (inr h) =
      let there : IsSome (x.folders q) = subst (λ f. IfSome f (λ m. IsSome (m q))) folders h.0 in
      let f = some_not (x.folders q) there in
      elim (folders_unreached d e folders none stores o all h.1) [
        | inl none ↦ inl none
        | inr ends ↦ inr (λ next. folder_there q f.0 (λ f. folders_at stores (λ fs. next (f ∷ fs))) o x f.1 (ends (λ fs. next (f.0 ∷ fs))))
      ]

  -- all of them are there
  pub folders_there : (stores : List Location) → IsTrue (are_folders stores) → All (IsThere x.folders) stores
      → (fs : List (Map (List ℕ))) × (map (location_files x.folders) stores ≡ map Some fs) × ((next : List (Map (List ℕ)) → Ending) (o : Outcome) (y : Contents) → next fs x o y → folders_at stores next x o y)
  folders_there [] all there = ([], refl, λ next o y h. h)
  folders_there (locations.Http host port prefix ∷ stores) all there = let no : false ≡ true = all in absurd (cc)
  folders_there (locations.Folder q ∷ stores) all there =
      let f = some_not (x.folders q) (there 0 (locations.Folder q) (omega arith)) in
      let rest = folders_there stores all (λ j s lt. there (suc j) s (omega (arith, lt))) in
      let fs : List (Map (List ℕ)) = f.0 ∷ rest.0 in (
        fs,
        ap (λ o. o ∷ map (location_files x.folders) stores) f.1 ∙ ap (λ os. Some f.0 ∷ os) rest.1,
        λ next o y h. folder_there q f.0 (λ f. folders_at stores (λ fs. next (f ∷ fs))) o y f.1 (rest.2 (λ fs. next (f.0 ∷ fs)) o y h),
      )

  -- the first index that can't be read, or is one too many
  pub indexes_unread : (d e : Disk) → d.files ≡ Some x.files → ((q : List ℕ) → FileRose d e q → ⊥) → (n : ℕ) (names : List (List ℕ)) (o : Outcome) → NoneListed d e n names o → (o ≡ ends.Memory) ⊎ ((next : List Listing → Ending) → indexes_at n names next x o x)
  indexes_unread d e files none n [] o h = absurd h
  indexes_unread d e files none n (q ∷ names) o (inl h) = elim (index_unread d e files none q o h) [ inl none ↦ inl none | inr ends ↦ inr (λ next. ends (then_more n names next)) ]
  indexes_unread d e files none n (q ∷ names) o (inr (l, listed, inl much)) =
      let is : IsListed x.files q l = subst (λ f. IfSome f (λ m. IsListed m q l)) files listed in
      inr (λ next. index_there q l (then_more n names next) o x is (inl (much.1, (much.0, refl))))
  indexes_unread d e files none n (q ∷ names) o (inr (l, listed, inr few)) =
      let is : IsListed x.files q l = subst (λ f. IfSome f (λ m. IsListed m q l)) files listed in
      elim (indexes_unread d e files none (n + count_of l) names o few.1) [
        | inl none ↦ inl none
        | inr ends ↦ inr (λ next. index_there q l (then_more n names next) o x is (inr (few.0, ends (λ ls. next (l ∷ ls)))))
      ]

  no_fewer : (n : ℕ) (ls : List Listing) → n ≤ items_with n ls
  no_fewer n [] = omega arith
  no_fewer n (l ∷ ls) = let more = no_fewer (n + count_of l) ls in omega (arith, more)

  pub indexes_there : (d : Disk) → d.files ≡ Some x.files → (n : ℕ) (names : List (List ℕ)) (ls : List Listing) → AllListed d names ls → items_with n ls ≤ seed_item_limit
      → (next : List Listing → Ending) (o : Outcome) (y : Contents) → next ls x o y → indexes_at n names next x o y
  indexes_there d files n [] [] all few next o y h = h
  indexes_there d files n [] (l ∷ ls) all few next o y h = absurd all
  indexes_there d files n (q ∷ names) [] all few next o y h = absurd all
  indexes_there d files n (q ∷ names) (l ∷ ls) all few next o y h =
      let is : IsListed x.files q l = subst (λ f. IfSome f (λ m. IsListed m q l)) files all.0 in
      let more = no_fewer (n + count_of l) ls in
      index_there q l (then_more n names next) o y is (inr (omega (arith, more, few), indexes_there d files (n + count_of l) names ls all.1 few (λ ls. next (l ∷ ls)) o y h))

-- ---- the steps

module _ (x : Contents) (w v : World) (quiet : IsQuiet w v) where
  -- nothing has changed where a step that only reads was refused
  unchanged : (u : World) (ending : Ending) (o : Outcome) → IsAt x w u → Reads u.disk v.disk → v.out ≡ u.out → (o ≡ ends.Memory) ⊎ ending x o x → EndsSo x v ending o
  unchanged u ending o at reads out (inl none) = inl none
  unchanged u ending o at reads out (inr ends) = inr (x, (at_read x w u v at reads out).has, ends)

  -- the operand is the name of a file
  pub index_so : (q : List ℕ) → IsTrue (is_file q) → (next : Listing → Ending) (then : Listing → Step World Unit)
      → ((l : Listing) (e : World) → IsAt x w e → IsListed x.files q l → (r : Result Unit Outcome) → then l e r v → EndsSo x v (next l) (outcome_of r))
      → (u : World) → IsAt x w u → (r : Result Unit Outcome) → (OnStorage (IndexGot q) >>= then) u r v → EndsSo x v (index_at q next) (outcome_of r)
  index_so q file next then on u at = bound_so (OnStorage (IndexGot q)) then (EndsSo x v (index_at q next)) u v
      (λ o h.
      let k = (got_file q (storage_of u) (Err o) (storage_of v) file h.0).0 in
      unchanged u (index_at q next) o at k.1 h.1 (elim (index_unread x u.disk v.disk at.has.files (file_unrisen x w u v at quiet) q o k.0) [ inl none ↦ inl none | inr ends ↦ inr (ends next) ]))
      (λ l e r h rest.
      let k = (got_file q (storage_of u) (Ok l) (storage_of e) file h.0).0 in
      let is : IsListed x.files q l = subst (λ f. IfSome f (λ m. IsListed m q l)) at.has.files k.0 in
      ends_as x v (next l) (index_at q next) (outcome_of r) (λ y so. index_there x q l next (outcome_of r) y is so) (on l e (at_read x w u e at k.1 h.1) is r rest))

  pub image_so : (q : List ℕ) (next : List ℕ → Ending) (then : Option (List ℕ) → Step World Unit)
      → ((t : List ℕ) (e : World) → IsAt x w e → (r : Result Unit Outcome) → then (Some t) e r v → EndsSo x v (next t) (outcome_of r))
      → (u : World) → IsAt x w u → (r : Result Unit Outcome) → (OnDisk (ImageOpened q) >>= then) u r v → EndsSo x v (image_at q next) (outcome_of r)
  image_so q next then on u at = bound_so (OnDisk (ImageOpened q)) then (EndsSo x v (image_at q next)) u v
      (λ o h. unchanged u (image_at q next) o at h.0.1 h.2 (elim (image_unread x u.disk v.disk at.has.files (file_unrisen x w u v at quiet) q o h.0.0) [ inl none ↦ inl none | inr ends ↦ inr (ends next) ]))
      (λ told e r h rest.
      let t : (t : List ℕ) × (x.files q ≡ Some t) × (told ≡ Some t) = subst (λ f. IfSome f (λ m. (t : List ℕ) × (m q ≡ Some t) × (told ≡ Some t))) at.has.files h.0.0 in
      ends_as x v (next t.0) (image_at q next) (outcome_of r) (λ y so. image_there x q t.0 next (outcome_of r) y t.1 so)
      (on t.0 e (at_read x w u e at h.0.1 h.2) r (subst (λ o. then o e r v) t.2 rest)))

  pub indexes_so : (names : List (List ℕ)) (next : List Listing → Ending) (then : List Listing → Step World Unit)
      → ((ls : List Listing) (e : World) → IsAt x w e → (r : Result Unit Outcome) → then ls e r v → EndsSo x v (next ls) (outcome_of r))
      → (u : World) → IsAt x w u → (r : Result Unit Outcome) → (OnDisk (IndexesRead names) >>= then) u r v → EndsSo x v (indexes_at 0 names next) (outcome_of r)
  indexes_so names next then on u at = bound_so (OnDisk (IndexesRead names)) then (EndsSo x v (indexes_at 0 names next)) u v
      (λ o h. unchanged u (indexes_at 0 names next) o at h.0.1 h.2 (elim (indexes_unread x u.disk v.disk at.has.files (file_unrisen x w u v at quiet) 0 names o h.0.0) [ inl none ↦ inl none | inr ends ↦ inr (ends next) ]))
      (λ ls e r h rest. ends_as x v (next ls) (indexes_at 0 names next) (outcome_of r) (λ y so. indexes_there x u.disk at.has.files 0 names ls h.0.0.0 h.0.0.1 next (outcome_of r) y so) (on ls e (at_read x w u e at h.0.1 h.2) r rest))

  -- ---- indexes that are obtained one by one, from files

  one_had : (q : List ℕ) → IsTrue (is_file q) → (u e : World) (l : Listing) → IsAt x w u → OnStorage (IndexGot q) u (Ok l) e → Listed u.disk q l × IsAt x w e × Reads u.disk e.disk
  one_had q file u e l at h =
      let k = (got_file q (storage_of u) (Ok l) (storage_of e) file h.0).0 in
      (k.0, at_read x w u e at k.1 h.1, k.1)

  indexes_had : (n : ℕ) (names : List (List ℕ)) → IsTrue (are_files names) → n ≤ seed_item_limit → (u : World) (ls : List Listing) (e : World) → IsAt x w u → IndexesGot n names u (Ok ls) e
      → (AllListed u.disk names ls × (items_with n ls ≤ seed_item_limit)) × IsAt x w e
  indexes_had n [] files few u ls e at h =
      let none : ls ≡ [] = let same = h.0 in cc in
      (subst (λ (k : List Listing). AllListed u.disk [] k × (items_with n k ≤ seed_item_limit)) (sym none) (tt, few), subst (IsAt x w) (sym h.1) at)
  indexes_had n (q ∷ names) files few u ls e at h =
      let both = both_files (is_file q) (are_files names) files in
      let one = one_had q both.0 u (world h.disk h.dial h.out) h.gave at h.did in
      let m = h.then.gave in
      let counted = h.then.did.0 in
      let mid = world h.then.disk h.then.dial h.then.out in
      let here : IsAt x w mid = subst (IsAt x w) (sym h.then.did.1) one.1 in
      let reads : Reads u.disk mid.disk = subst (λ (y : World). Reads u.disk y.disk) (sym h.then.did.1) one.2 in
      let more = indexes_had m names both.1 counted.1 mid h.then.then.gave (world h.then.then.disk h.then.then.dial h.then.then.out) here h.then.then.did in
      let all : AllListed u.disk (q ∷ names) (h.gave ∷ h.then.then.gave) = (one.0, all_later u.disk mid.disk reads names h.then.then.gave more.0.0) in
      let sum : items_with n (h.gave ∷ h.then.then.gave) ≤ seed_item_limit = subst (λ (k : ℕ). items_with k h.then.then.gave ≤ seed_item_limit) counted.0 more.0.1 in
      let are : ls ≡ h.gave ∷ h.then.then.gave = let same = h.then.then.then.0 in cc in
      (subst (λ (k : List Listing). AllListed u.disk (q ∷ names) k × (items_with n k ≤ seed_item_limit)) (sym are) (all, sum), subst (IsAt x w) (sym h.then.then.then.1) more.1)

  not_counted : (n : ℕ) (q : List ℕ) (names : List (List ℕ)) (l : Listing) (o : Outcome) → IsListed x.files q l → CountedWith n l (Err o) → (o ≡ ends.Memory) ⊎ ((next : List Listing → Ending) → indexes_at n (q ∷ names) next x o x)
  not_counted n q names l ends.TooManyItems is counted = inr (λ next. index_there x q l (then_more n names next) ends.TooManyItems x is (inl (counted, (refl, refl))))
  not_counted n q names l ends.Memory is counted = inl refl
  not_counted n q names l other is counted = absurd counted

  not_ok : {A : Type 0} (a : A) (o : Outcome) → Err o ≡ Ok a → ⊥
  not_ok a o same = absurd (cc)

  indexes_not_had : (n : ℕ) (names : List (List ℕ)) → IsTrue (are_files names) → (u : World) (o : Outcome) → IsAt x w u → IndexesGot n names u (Err o) v
      → ((o ≡ ends.Memory) ⊎ ((next : List Listing → Ending) → indexes_at n names next x o x)) × HasContents v x
  indexes_not_had n [] files u o at h = absurd (not_ok [] o h.0)
  indexes_not_had n (q ∷ names) files u o at (inl h) =
      let both = both_files (is_file q) (are_files names) files in
      let k = (got_file q (storage_of u) (Err o) (storage_of v) both.0 h.0).0 in (
        elim (index_unread x u.disk v.disk at.has.files (file_unrisen x w u v at quiet) q o k.0) [ inl none ↦ inl none | inr ends ↦ inr (λ next. ends (then_more n names next)) ],
        (at_read x w u v at k.1 h.1).has,
      )
  indexes_not_had n (q ∷ names) files u o at (inr h) = go (λ m mid here z. indexes_not_had m names both.1 mid o here z) h.then where
    both : IsTrue (is_file q) × IsTrue (are_files names)
    both = both_files (is_file q) (are_files names) files

    one : Listed u.disk q h.gave × IsAt x w (world h.disk h.dial h.out) × Reads u.disk h.disk
    one = one_had q both.0 u (world h.disk h.dial h.out) h.gave at h.did

    is : IsListed x.files q h.gave
    is = subst (λ f. IfSome f (λ m. IsListed m q h.gave)) at.has.files one.0

    go : ((m : ℕ) (mid : World) → IsAt x w mid → IndexesGot m names mid (Err o) v → ((o ≡ ends.Memory) ⊎ ((next : List Listing → Ending) → indexes_at m names next x o x)) × HasContents v x)
        → (Pure (CountedWith n h.gave) >>= (λ m. IndexesGot m names >>= (λ ls. Pure (λ r. r ≡ Ok (h.gave ∷ ls))))) (world h.disk h.dial h.out) (Err o) v
        → ((o ≡ ends.Memory) ⊎ ((next : List Listing → Ending) → indexes_at n (q ∷ names) next x o x)) × HasContents v x
    go more (inl k) = (not_counted n q names h.gave o is k.0, (subst (IsAt x w) (sym k.1) one.1).has)
    go more (inr k) = later k.then where
      mid : World
      mid = world k.disk k.dial k.out

      later : (IndexesGot k.gave names >>= (λ ls. Pure (λ r. r ≡ Ok (h.gave ∷ ls)))) mid (Err o) v → ((o ≡ ends.Memory) ⊎ ((next : List Listing → Ending) → indexes_at n (q ∷ names) next x o x)) × HasContents v x
      later (inl z) =
          let rest = more k.gave mid (subst (IsAt x w) (sym k.did.1) one.1) z in (
            elim rest.0 [
              | inl none ↦ inl none
              | inr ends ↦ inr (λ next. index_there x q h.gave (then_more n names next) o x is (inr (
                subst (λ (i : ℕ). i ≤ seed_item_limit) k.did.0.0 k.did.0.1,
                subst (λ (i : ℕ). indexes_at i names (λ ls. next (h.gave ∷ ls)) x o x) k.did.0.0 (ends (λ ls. next (h.gave ∷ ls))),
              )))
            ],
            rest.1,
          )
      later (inr z) = absurd (not_ok (h.gave ∷ z.gave) o z.then.0)

  pub indexes_got_so : (names : List (List ℕ)) → IsTrue (are_files names) → (next : List Listing → Ending) (then : List Listing → Step World Unit)
      → ((ls : List Listing) (e : World) → IsAt x w e → (r : Result Unit Outcome) → then ls e r v → EndsSo x v (next ls) (outcome_of r))
      → (u : World) → IsAt x w u → (r : Result Unit Outcome) → (IndexesGot 0 names >>= then) u r v → EndsSo x v (indexes_at 0 names next) (outcome_of r)
  indexes_got_so names files next then on u at = bound_so (IndexesGot 0 names) then (EndsSo x v (indexes_at 0 names next)) u v
      (λ o h. let none = indexes_not_had 0 names files u o at h in elim none.0 [ inl memory ↦ inl memory | inr ends ↦ inr (x, none.1, ends next) ])
      (λ ls e r h rest.
      let all = indexes_had 0 names files (omega arith) u ls e at h in
      ends_as x v (next ls) (indexes_at 0 names next) (outcome_of r) (λ y so. indexes_there x u.disk at.has.files 0 names ls all.0.0 all.0.1 next (outcome_of r) y so) (on ls e all.1 r rest))

  pub stores_so : (stores : List Location) → IsTrue (are_folders stores) → (next : List (Map (List ℕ)) → Ending) (then : Unit {0} → Step World Unit)
      → ((fs : List (Map (List ℕ))) (e : World) → IsAt x w e → map (location_files x.folders) stores ≡ map Some fs → (r : Result Unit Outcome) → then tt e r v → EndsSo x v (next fs) (outcome_of r))
      → (u : World) → IsAt x w u → (r : Result Unit Outcome) → (OnDisk (SourcesOpened stores) >>= then) u r v → EndsSo x v (folders_at stores next) (outcome_of r)
  stores_so stores all next then on u at = bound_so (OnDisk (SourcesOpened stores)) then (EndsSo x v (folders_at stores next)) u v
      (λ o h. unchanged u (folders_at stores next) o at h.0.1 h.2 (elim h.0.0 [
        | inl first ↦ elim (folders_unreached x u.disk v.disk at.has.folders (folder_unrisen x w u v at quiet) stores o all first) [ inl none ↦ inl none | inr ends ↦ inr (ends next) ]
        | inr none ↦ inl none
      ]))
      (λ _ e r h rest.
      let there : All (IsThere x.folders) stores = subst (λ f. IfSome f (λ m. All (IsThere m) stores)) at.has.folders h.0.0 in
      let fs = folders_there x stores all there in
      ends_as x v (next fs.0) (folders_at stores next) (outcome_of r) (λ y so. fs.2 next (outcome_of r) y so) (on fs.0 e (at_read x w u e at h.0.1 h.2) fs.1 r rest))

  pub cache_so : (stores : List Location) (q : List ℕ) (next : Map (List ℕ) → Ending) (then : Unit {0} → Step World Unit)
      → ((f : Map (List ℕ)) (e : World) → IsAt x w e → x.folders q ≡ Some f → (r : Result Unit Outcome) → then tt e r v → EndsSo x v (next f) (outcome_of r))
      → (u : World) → IsAt x w u → (r : Result Unit Outcome) → (OnDisk (CacheOpened stores (Some q)) >>= then) u r v → EndsSo x v (folder_at q next) (outcome_of r)
  cache_so stores q next then on u at = bound_so (OnDisk (CacheOpened stores (Some q))) then (EndsSo x v (folder_at q next)) u v
      (λ o h. unchanged u (folder_at q next) o at h.0.1 h.2 (elim (folder_unreached x u.disk v.disk at.has.folders (folder_unrisen x w u v at quiet) q o h.0.0) [ inl none ↦ inl none | inr ends ↦ inr (ends next) ]))
      (λ _ e r h rest.
      let there : IsSome (x.folders q) = subst (λ f. IfSome f (λ m. IsSome (m q))) at.has.folders h.0.0 in
      let f = some_not (x.folders q) there in
      ends_as x v (next f.0) (folder_at q next) (outcome_of r) (λ y so. folder_there x q f.0 next (outcome_of r) y f.1 so) (on f.0 e (at_read x w u e at h.0.1 h.2) f.1 r rest))

  -- there is a cache, or none
  pub any_cache_so : (stores : List Location) (cache : Option (List ℕ)) (next : List (Map (List ℕ)) → Ending) (then : Unit {0} → Step World Unit)
      → ((cs : List (Map (List ℕ))) (e : World) → IsAt x w e → map x.folders (folder_of cache) ≡ map Some cs → (r : Result Unit Outcome) → then tt e r v → EndsSo x v (next cs) (outcome_of r))
      → (u : World) → IsAt x w u → (r : Result Unit Outcome) → (OnDisk (CacheOpened stores cache) >>= then) u r v → EndsSo x v (folders_at (map locations.Folder (folder_of cache)) next) (outcome_of r)
  any_cache_so stores None next then on u at = bound_so (OnDisk (CacheOpened stores None)) then (EndsSo x v (next [])) u v
      (λ o h. absurd h.0)
      (λ _ e r h rest. on [] e (at_read x w u e at (cache_reads stores None u.disk e.disk (Ok tt) h.0) h.2) refl r rest)
  any_cache_so stores (Some q) next then on u at = cache_so stores q (λ f. next (f ∷ [])) then (λ f e there is r rest. on (f ∷ []) e there (ap (λ o. o ∷ []) is) r rest) u at

  -- a folder is taken to be written
  pub taken_so : (images : List (List ℕ)) (q : List ℕ) (next : Map (List ℕ) → Ending) (then : Option (Map (List ℕ)) → Step World Unit)
      → ((f : Map (List ℕ)) (e : World) → x.folders q ≡ Some f → IsAt (record x { folders = at_name x.folders q None }) w e → (r : Result Unit Outcome) → then (Some f) e r v → EndsSo x v (next f) (outcome_of r))
      → (u : World) → IsAt x w u → (r : Result Unit Outcome) → (OnDisk (StoreTaken images q) >>= then) u r v → EndsSo x v (folder_at q next) (outcome_of r)
  taken_so images q next then on u at = bound_so (OnDisk (StoreTaken images q)) then (EndsSo x v (folder_at q next)) u v
      (λ o h. unchanged u (folder_at q next) o at h.0.1 h.2 (elim (folder_unreached x u.disk v.disk at.has.folders (folder_unrisen x w u v at quiet) q o h.0.0) [ inl none ↦ inl none | inr ends ↦ inr (ends next) ]))
      (λ held e r h rest.
      let f : (f : Map (List ℕ)) × (x.folders q ≡ Some f) × (held ≡ Some f) = subst (λ y. IfSome y (λ m. (f : Map (List ℕ)) × (m q ≡ Some f) × (held ≡ Some f))) at.has.folders h.0.0 in
      let taken : IsAt (record x { folders = at_name x.folders q None }) w e = record {
        has = record { files = h.0.1.1.files ∙ at.has.files; folders = h.0.1.0 ∙ ap (option_map (λ m. at_name m q None)) at.has.folders; printed = ap (λ o. o.taken) h.2 ∙ at.has.printed };
        files = λ p. omega (arith, at.files p, h.0.1.1.counts p);
        folders = λ p. omega (arith, at.folders p, h.0.1.1.folder_counts p);
        out = let same = ap (λ o. o.faults) h.2 in omega (arith, same, at.out);
      } in
      ends_as x v (next f.0) (folder_at q next) (outcome_of r) (λ y so. folder_there x q f.0 next (outcome_of r) y f.1 so) (on f.0 e f.1 taken r (subst (λ o. then o e r v) f.2 rest)))
