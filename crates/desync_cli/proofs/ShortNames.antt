-- The names that a command of words has, and with them those that outcomes tell, are no longer than the longest word, but
-- for what stands behind OUT in the name of the temporary file.
use Rattle.std.proofs.Common.{◌≡◌, ℕ, zero, suc, ◌+◌, ◌-◌, ◌≤◌, ◌<◌, ◌==◌, List, [], ◌∷◌, ◌++◌, length, map, codes, Bool, true, false, if◌then◌else◌, Option, Some, None, Result, Ok, Err, subst, inl, inr, slice_index_or, arith}
use Rattle.std.proofs.lemmas.List.{length-append}
use Rattle.std.specs.List.{list_any, onto_first}
use Rattle.cat_command.specs.Cat.{range_size}
use Rattle.command_line.specs.CommandLine.{command_by, command_line, command_by_roles as parsed, command_or_help, complete, group_of, is_alone, proxy, read_location}
use Rattle.command_line.specs.Judging.{judged, whole_fault}
use Rattle.command_outcome.specs.ErrorLines.{name_in}
use Rattle.command_outcome.specs.declared.outcome.Outcome.{Outcome}
use Rattle.command_outcome.specs.declared.outcome.Outcome.TheVariants as ends
use Rattle.command_worlds.specs.Steps.{outcome_of}
use Rattle.command_groups.specs.Groups.{stores_of}
use Rattle.command_steps.specs.Stores.{folder_name}
use Rattle.command_worlds.specs.Worlds.{World}
use Rattle.command_words.specs.Locations.{contains_scheme, is_plain_http, location_of, parts_of, server_of, url_location}
use Rattle.command_words.specs.OptionTable.{command_named}
use Rattle.command_words.specs.Roles.{WordsByRole, by_role, is_given, role_number, words_as}
use Rattle.command_words.specs.declared.command.Command.{Command}
use Rattle.command_words.specs.declared.command.Command.TheVariants as commands
use Rattle.command_words.specs.declared.command.Location.{Location}
use Rattle.command_words.specs.declared.command.Location.TheVariants as locations
use Rattle.command_words.specs.declared.location.NoLocation.{NoLocation}
use Rattle.command_words.specs.declared.location.NoLocation.TheVariants as no
use Rattle.command_words.specs.declared.option_table.CommandKind.{CommandKind}
use Rattle.command_words.specs.declared.option_table.CommandKind.TheVariants as kinds
use Rattle.command_words.specs.declared.option_table.OptionKind.TheVariants as option
use Rattle.command_words.specs.declared.roles.Role.{Role}
use Rattle.command_words.specs.declared.roles.Role.TheVariants as role
use Rattle.command_words.specs.declared.usage.WordsFault.{WordsFault}
use Rattle.desync_cli.specs.Commands.{CommandEnds, DesyncEnds, NoCommand, SureTypes, command_said}
use Rattle.desync_cli.proofs.Fair.{begun}
use Rattle.desync_cli.proofs.Named.{AllShort, Shorts, bound, cache_opened, checked, chopped, counted, filled, image_opened, index_got, indexes_got, indexes_read, judged as sizes_judged, on_disk, on_out, on_sources, opened, or_unheard, out_made, printed, proxied, pruned, range_put, rehearsed, served, source_taken, stored, taken, unheard, verified, written}
use Rattle.extract_command.specs.Extract.{never_fail, temporary_out}
use Rattle.server_commands.specs.Serving.{Heard}

-- the names that a command has
abbrev named : Option (List ℕ) → List (List ℕ)
named None = []
named (Some q) = q ∷ []

-- each is no longer than this
abbrev HasShort : ℕ → Command → Type 0
HasShort n (commands.Make store sizes workers digest index image) = (length (folder_name store) ≤ n) × (length index ≤ n) × (length image ≤ n)
HasShort n (commands.VerifyIndex workers index image) = (length index ≤ n) × (length image ≤ n)
HasShort n (commands.Chop store workers index image) = (length (folder_name store) ≤ n) × (length index ≤ n) × (length image ≤ n)
HasShort n (commands.Cache stores retries cache workers indexes) = AllShort n (map folder_name (stores_of stores)) × (length cache ≤ n) × AllShort n indexes
HasShort n (commands.ListChunks index) = length index ≤ n
HasShort n (commands.Extract stores retries seeds cache in_place workers index target) = AllShort n (map folder_name (stores_of stores)) × AllShort n seeds × AllShort n (named cache) × (length index ≤ n) × (length (temporary_out target) ≤ n) × (length target ≤ n)
HasShort n (commands.Cat stores retries offset size index) = AllShort n (map folder_name (stores_of stores)) × (length index ≤ n)
HasShort n (commands.Info stores retries index) = AllShort n (map folder_name (stores_of stores)) × (length index ≤ n)
HasShort n (commands.Verify store repair workers digest) = length store ≤ n
HasShort n (commands.Prune store indexes) = (length store ≤ n) × AllShort n indexes
HasShort n (commands.ChunkServer store host port writable workers digest) = length store ≤ n
HasShort n (commands.Proxy stores retries cache host port workers digest) = AllShort n (map folder_name (stores_of stores)) × (length cache ≤ n)
HasShort n (commands.IndexServer store host port writable) = length store ≤ n
HasShort n other = Unit {0}

-- and so are those that its refusals tell
command_short : (n : ℕ) (sure : SureTypes) (h : Heard) (c : Command) → HasShort n c → Shorts n (CommandEnds sure h c)
command_short n sure h (commands.Make store sizes workers digest index image) f = bound (sizes_judged n sizes) (λ z. bound (on_disk (image_opened n image f.2)) (λ told. bound (on_disk (source_taken n _ store f.0)) (λ held. bound (on_sources (stored n digest z image told store held)) (λ bytes. on_disk (written n index bytes f.1)))))
command_short n sure h (commands.VerifyIndex workers index image) f = bound (on_sources (index_got n index f.0)) (λ l. bound (on_disk (image_opened n image f.1)) (λ told. on_disk (checked n image l told)))
command_short n sure h (commands.Chop store workers index image) f = bound (on_sources (index_got n index f.1)) (λ l. bound (on_disk (image_opened n image f.2)) (λ told. bound (on_disk (source_taken n _ store f.0)) (λ held. on_sources (chopped n l image told store held))))
command_short n sure h (commands.Cache stores retries cache workers indexes) f = bound (on_disk (opened n (stores_of stores) f.0)) (λ u. bound (on_disk (cache_opened n (stores_of stores) (Some cache) (f.1, tt))) (λ u. on_sources (filled n sure.looks.never_fail stores retries cache workers indexes f.2)))
command_short n sure h (commands.ListChunks index) f = bound (on_sources (index_got n index f)) (λ l. on_out (printed n _))
command_short n sure h (commands.Extract stores retries seeds cache in_place workers index target) f = bound (on_sources (index_got n index f.3)) (λ l. bound (on_disk (indexes_read n seeds f.1)) (λ ls. bound (on_disk (opened n (stores_of stores) f.0)) (λ u. bound (on_disk (cache_opened n (stores_of stores) cache (cached cache f.2))) (λ u. out_made n (never_fail sure.target h.never_fails) in_place (record { groups = stores; retries = retries; sure = sure.looks.never_fail }) cache target l _ f.4 f.5)))) where
  cached : (cache : Option (List ℕ)) → AllShort n (named cache) → AllShort n (elim cache [ None ↦ [] | Some q ↦ q ∷ [] ])
  cached None all = all
  cached (Some q) all = all
command_short n sure h (commands.Cat stores retries offset size index) f = bound (on_sources (index_got n index f.1)) (λ l. bound (on_disk (opened n (stores_of stores) f.0)) (λ u. range_put n sure.looks.never_fail stores retries l offset (range_size l offset size)))
command_short n sure h (commands.Info stores retries index) f = bound (on_sources (index_got n index f.1)) (λ l. bound (on_sources (counted n sure.looks.never_fail stores retries f.0 l)) (λ k. on_out (printed n _)))
command_short n sure h (commands.Verify store repair workers digest) f = bound (on_disk (taken n store f)) (λ held. verified n digest store repair held)
command_short n sure h (commands.Prune store indexes) f = bound (indexes_got n 0 indexes f.1) (λ ls. bound (on_disk (taken n store f.0)) (λ held. on_disk (pruned n _ store held)))
command_short n sure h (commands.Demo number size workers digest) f = bound (rehearsed n digest number size) (λ g. on_out (printed n _))
command_short n sure h commands.Help f = on_out (printed n _)
command_short n sure h commands.Version f = on_out (printed n _)
command_short n sure h (commands.HelpOn kind) f = on_out (printed n _)
command_short n sure h (commands.ChunkServer store host port writable workers digest) f = bound (on_disk (unheard n h store f)) (λ held. on_disk (served n h store held _ _))
command_short n sure h (commands.Proxy stores retries cache host port workers digest) f = bound (on_disk (or_unheard n h _ (opened n (stores_of stores) f.0))) (λ u. bound (on_disk (or_unheard n h _ (cache_opened n (stores_of stores) (Some cache) (f.1, tt)))) (λ u. on_sources (proxied n sure.looks h stores retries cache digest _)))
command_short n sure h (commands.IndexServer store host port writable) f = bound (on_disk (unheard n h store f)) (λ held. on_disk (served n h store held _ _))

-- ---- the words

module _ (k : ℕ) where
  -- words that are no longer than k
  longer : (names : List (List ℕ)) → AllShort k names → AllShort (k + 11) names
  longer [] all = tt
  longer (q ∷ names) all = (omega (arith, all.0), longer names all.1)

  words_short : (r : Role) (roles : List Role) (words : List (List ℕ)) → AllShort k words → AllShort k (words_as r roles words)
  words_short r [] words all = tt
  words_short r (q ∷ roles) [] all = tt
  words_short r (q ∷ roles) (w ∷ words) all = go (role_number q == role_number r) (words_short r roles words all.1) where
    go : (b : Bool) → AllShort k (words_as r roles words) → AllShort k (if b then w ∷ words_as r roles words else words_as r roles words)
    go true rest = (all.0, rest)
    go false rest = rest

  word_short : (names : List (List ℕ)) → AllShort k names → (i : ℕ) → length (slice_index_or names i []) ≤ k
  word_short [] all i = omega arith
  word_short (q ∷ names) all zero = all.0
  word_short (q ∷ names) all (suc i) = word_short names all.1 i

  abbrev ShortPlace : Result Location NoLocation → Type 0
  ShortPlace r = length (folder_name (read_location r)) ≤ k

  either : {A : Type 0} (P : A → Type 0) (b : Bool) (x y : A) → P x → P y → P (if b then x else y)
  either P true x y p q = p
  either P false x y p q = q

  url_short : (r : _) → ShortPlace (url_location r)
  url_short (Ok u) = either ShortPlace (is_plain_http u) (Ok (server_of u)) (Err no.Bad) (omega arith) (omega arith)
  url_short (Err e) = omega arith

  place_short : (w : List ℕ) → length w ≤ k → ShortPlace (location_of w)
  place_short w le = either ShortPlace (list_any (λ c. c == 124) w) (Err no.Bad) _ (omega arith) (either ShortPlace (contains_scheme w) _ (Ok (locations.Folder w)) (search url_short) le)

  -- a part of a word is no longer than the word
  parts_short : (w : List ℕ) (n : ℕ) → length w ≤ n → AllShort n (parts_of w)
  parts_short [] n le = (le, tt)
  parts_short (c ∷ w) n le = go (c == 124) (parts_of w) (parts_short w (n - 1) (omega (arith, le))) where
    longer_by_one : (ps : List (List ℕ)) → AllShort (n - 1) ps → AllShort n ps
    longer_by_one [] all = tt
    longer_by_one (p ∷ ps) all = (omega (arith, all.0), longer_by_one ps all.1)

    first_longer : (ps : List (List ℕ)) → AllShort (n - 1) ps → AllShort n (onto_first c ps)
    first_longer [] all = (omega (arith, le), tt)
    first_longer (p ∷ ps) all = (omega (arith, all.0, le), longer_by_one ps all.1)

    go : (b : Bool) (ps : List (List ℕ)) → AllShort (n - 1) ps → AllShort n (if b then [] ∷ ps else onto_first c ps)
    go true ps all = (omega arith, longer_by_one ps all)
    go false ps all = first_longer ps all

  places_short : (parts : List (List ℕ)) → AllShort k parts → AllShort (k + 11) (map folder_name (map (λ w. read_location (location_of w)) parts))
  places_short [] all = tt
  places_short (w ∷ parts) all = (omega (arith, place_short w all.0), places_short parts all.1)

  both_short : (n : ℕ) (front more : List Location) → AllShort n (map folder_name front) → AllShort n (map folder_name more) → AllShort n (map folder_name (front ++ more))
  both_short n [] more a b = b
  both_short n (s ∷ front) more a b = (a.0, both_short n front more a.1 b)

  groups_short : (words : List (List ℕ)) → AllShort k words → AllShort (k + 11) (map folder_name (stores_of (map group_of words)))
  groups_short [] all = tt
  groups_short (w ∷ words) all = both_short (k + 11) (group_of w) (stores_of (map group_of words)) (places_short (parts_of w) (parts_short w k all.0)) (groups_short words all.1)

  abbrev Said : Result Command WordsFault → Type 0
  Said (Ok c) = HasShort (k + 11) c
  Said (Err e) = Unit {0}

  module _ (p : WordsByRole) (all : AllShort k p.words) where
    as_role : (r : Role) → AllShort k (words_as r p.roles p.words)
    as_role r = words_short r p.roles p.words all

    one : (r : Role) (i : ℕ) → length (slice_index_or (words_as r p.roles p.words) i []) ≤ k + 11
    one r i = omega (arith, word_short (words_as r p.roles p.words) (as_role r) i)

    store_short : length (folder_name (read_location (location_of (slice_index_or (words_as (role.Value option.Store) p.roles p.words) 0 [])))) ≤ k + 11
    store_short = omega (arith, place_short _ (word_short _ (as_role (role.Value option.Store)) 0))

    cache_short : (b : Bool) → AllShort (k + 11) (named (if b then Some (slice_index_or (words_as (role.Value option.Cache) p.roles p.words) 0 []) else None))
    cache_short true = (one (role.Value option.Cache) 0, tt)
    cache_short false = tt

    temporary_short : length (temporary_out (slice_index_or (words_as role.Operand p.roles p.words) 1 [])) ≤ k + 11
    temporary_short = omega (arith, word_short _ (as_role role.Operand) 1, length-append (slice_index_or (words_as role.Operand p.roles p.words) 1 []) (codes ".tmp-desync"))

    parsed_short : (kind : CommandKind) → HasShort (k + 11) (parsed kind p)
    parsed_short kinds.Make = (store_short, one role.Operand 0, one role.Operand 1)
    parsed_short kinds.Extract = (groups_short _ (as_role (role.Value option.Store)), longer _ (as_role (role.Value option.Seed)), cache_short _, one role.Operand 0, temporary_short, one role.Operand 1)
    parsed_short kinds.VerifyIndex = (one role.Operand 0, one role.Operand 1)
    parsed_short kinds.Chop = (store_short, one role.Operand 0, one role.Operand 1)
    parsed_short kinds.Cache = (groups_short _ (as_role (role.Value option.Store)), one (role.Value option.Cache) 0, longer _ (as_role role.Operand))
    parsed_short kinds.ListChunks = one role.Operand 0
    parsed_short kinds.Cat = (groups_short _ (as_role (role.Value option.Store)), one role.Operand 0)
    parsed_short kinds.Info = (groups_short _ (as_role (role.Value option.Store)), one role.Operand 0)
    parsed_short kinds.Verify = one (role.Value option.Store) 0
    parsed_short kinds.Prune = (one (role.Value option.Store) 0, longer _ (as_role role.Operand))
    parsed_short kinds.ChunkServer = either (HasShort (k + 11)) (is_given option.Cache p.roles) (proxy p) _ (groups_short _ (as_role (role.Value option.Store)), one (role.Value option.Cache) 0) (one (role.Value option.Store) 0)
    parsed_short kinds.IndexServer = one (role.Value option.Store) 0
    parsed_short kinds.Demo = tt

  completed : (f : Option WordsFault) (c : Command) → HasShort (k + 11) c → Said (complete f c)
  completed (Some e) c h = tt
  completed None c h = h

  by_kind : (kind : CommandKind) (words : List (List ℕ)) → AllShort k words → (r : Result (List Role) WordsFault) → Said (command_by kind words r)
  by_kind kind words all (Err e) = tt
  by_kind kind words all (Ok roles) = completed (whole_fault kind (by_role roles words)) (parsed kind (by_role roles words)) (parsed_short (by_role roles words) all kind)

  or_help : (o : Option CommandKind) (words : List (List ℕ)) → AllShort k words → Said (command_or_help o words)
  or_help None words all = tt
  or_help (Some kind) words all = either Said (is_alone words (codes "--help")) (Ok (commands.HelpOn kind)) (command_by kind words (judged kind words)) tt (by_kind kind words all (judged kind words))

  line_short : (words : List (List ℕ)) → AllShort k words → Said (command_line words)
  line_short [] all = tt
  line_short (w ∷ words) all =
      let later = command_or_help (command_named w) words in
      either Said (is_alone (w ∷ words) (codes "--help")) (Ok commands.Help) (if is_alone (w ∷ words) (codes "--version") then Ok commands.Version else later) tt
      (either Said (is_alone (w ∷ words) (codes "--version")) (Ok commands.Version) later tt (or_help (command_named w) words all.1))

  said_short : (r : Result Command WordsFault) (c : Command) → Said r → command_said r ≡ Some c → HasShort (k + 11) c
  said_short (Ok d) c h is = subst (HasShort (k + 11)) (cc) h
  said_short (Err e) c h is = absurd (cc)

  unread_short : (words : List (List ℕ)) (o : Outcome) → NoCommand words o → length (name_in o) ≤ k + 11
  unread_short words (ends.Usage place why) h = omega arith
  unread_short words ends.Memory h = omega arith
  unread_short words other h = absurd h

  -- the name that the outcome tells
  pub short_name : (sure : SureTypes) (h : Heard) (words : List (List ℕ)) (w v : World) (r : Result Unit Outcome) → AllShort k words → DesyncEnds sure h words w r v → length (name_in (outcome_of r)) ≤ k + 11
  short_name sure h words w v (Ok u) all t = omega arith
  short_name sure h words w v (Err o) all (inl t) = unread_short words o t.0
  short_name sure h words w v (Err o) all (inr t) =
      let b = begun sure h words w v (Err o) t in
      (command_short (k + 11) sure h b.0 (said_short (command_line words) b.0 (line_short words all) b.1)).short w v o b.2

-- words of which none is longer than k
pub all_short : (k : ℕ) (words : List (List ℕ)) → ((i : ℕ) → i < length words → length (slice_index_or words i []) ≤ k) → AllShort k words
all_short k [] f = tt
all_short k (w ∷ words) f = (f 0 (omega arith), all_short k words (λ i lt. f (suc i) (omega (arith, lt))))
