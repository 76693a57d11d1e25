-- The commands that words say keep the limits of the table of options, and each index has a place.
use Rattle.std.proofs.Common.{◌≡◌, ◌<◌, ◌≤◌, ℕ, suc, All, not, ◌+◌, ◌*◌, ◌-◌, ◌&&◌, ◌||◌, Bool, true, false, List, [], ◌∷◌, length, get_or, map, sum_by, nat_lt, nat_le, ◌==◌, codes, if◌then◌else◌, Option, Some, None, option_map, unwrap_or, Result, Ok, Err, IfOk, refl, sym, ap, ap₂, subst, ◌∙◌, arith}
use Rattle.std.specs.Char.{is_ascii_digit}
use Rattle.std.proofs.lemmas.Bool.{cond-true, leb-true, lt-ltb, ltb-false, true≢false}
use Rattle.std.proofs.lemmas.Option.{none-some}
use Rattle.std.proofs.lemmas.List.{length-map}
use Rattle.std.proofs.lemmas.List.Elements.{All-from_get_or, All-map}
use Rattle.std.proofs.lemmas.List.Splits.{length-slice_split}
use Rattle.std.proofs.lemmas.List.Sums.{sum_by-cons}
use Rattle.command_line.specs.CommandLine.{command_by, command_line, command_by_roles, command_or_help, command_with, complete, is_alone, number, proxy, read_location, group_of, retries, stores, ReadsWords}
use Rattle.command_line.specs.Judging.{demo_operand_refusal, index_refusal, is_empty, judged, name_operand_refusal, name_refusal, operand_refusal, place_refusal, stores_named, folder_fault, whole_fault}
use Rattle.std.specs.Option.{option_or}
use Rattle.command_words.specs.declared.command.Command.{Command}
use Rattle.command_words.specs.declared.command.Command.TheVariants as said
use Rattle.command_words.specs.declared.command.Location.{Location}
use Rattle.command_words.specs.declared.location.IndexPlace.{IndexPlace}
use Rattle.command_words.specs.declared.location.NoLocation.{NoLocation}
use Rattle.command_words.specs.declared.location.NoLocation.TheVariants as no
use Rattle.command_words.specs.declared.option_table.CommandKind.{CommandKind}
use Rattle.command_words.specs.declared.option_table.CommandKind.TheVariants as command
use Rattle.command_words.specs.declared.option_table.OptionKind.{OptionKind}
use Rattle.command_words.specs.declared.option_table.OptionKind.TheVariants as option
use Rattle.command_words.specs.declared.option_table.Takes.{Takes}
use Rattle.command_words.specs.declared.roles.Role.{Role}
use Rattle.command_words.specs.declared.roles.Role.TheVariants as role
use Rattle.command_words.specs.declared.usage.UsageWhy.TheVariants as why
use Rattle.command_words.specs.declared.usage.WordsFault.{WordsFault}
use Rattle.command_words.specs.Limits.{AreFewStores, Fits}
use Rattle.command_words.specs.Locations.{location_of, parts_of, index_place_of, is_index_url, NamesIndex}
use Rattle.command_words.specs.OptionTable.{times, names, folder_and_indexes, written_index, command_named, takes_groups, takes_of, takes_value, times_of, command_rows, option_rows}
use Rattle.command_words.specs.Roles.{by_role, is_given, operand, times_of_role, value, words_as, word_as}
use Rattle.command_words.specs.Whole.{lacks, why_not_whole}
use Rattle.command_line.specs.Values.{ends_in_caibx, is_seed, number_in_word, number_up_to, with_digit, with_digits}
use Rattle.command_line.proofs.Counts.{Passes, is_right, judged_right, named_right, operands_bounded, options_bounded, values_counted}
use Rattle.command_line.proofs.Following.{roles_length}
use Rattle.command_line.proofs.Lists.{words_counted}
use Rattle.command_line.proofs.Passing.{PassesAs, operands_pass, stores_few, values_pass}

-- ---- the rows that limit

record Rows : Type 0 where
  stores_of_extract : times_of command.Extract option.Store ≡ times 1 16
  seeds_of_extract : times_of command.Extract option.Seed ≡ times 0 64
  stores_of_cache : times_of command.Cache option.Store ≡ times 1 16
  stores_of_cat : times_of command.Cat option.Store ≡ times 1 16
  stores_of_chunk_server : times_of command.ChunkServer option.Store ≡ times 1 16
  names_of_make : takes_of command.Make ≡ written_index
  names_of_extract : takes_of command.Extract ≡ names 2 2 1
  names_of_cat : takes_of command.Cat ≡ names 1 1 1
  names_of_verify_index : takes_of command.VerifyIndex ≡ names 2 2 1
  names_of_chop : takes_of command.Chop ≡ names 2 2 1
  names_of_cache : takes_of command.Cache ≡ names 1 64 64
  names_of_list_chunks : takes_of command.ListChunks ≡ names 1 1 1
  names_of_info : takes_of command.Info ≡ names 1 1 1
  names_of_prune : takes_of command.Prune ≡ folder_and_indexes 1 64
  groups_of_extract : takes_groups command.Extract ≡ true
  groups_of_cat : takes_groups command.Cat ≡ true
  groups_of_cache : takes_groups command.Cache ≡ true
  groups_of_info : takes_groups command.Info ≡ true
  groups_of_chunk_server : takes_groups command.ChunkServer ≡ true
  store_takes : takes_value option.Store ≡ true
  seed_takes : takes_value option.Seed ≡ true

rows : Rows
unfolding times_of command_rows takes_of takes_value option_rows
rows = record {
  stores_of_extract = refl;
  seeds_of_extract = refl;
  stores_of_cache = refl;
  stores_of_cat = refl;
  stores_of_chunk_server = refl;
  names_of_make = refl;
  names_of_extract = refl;
  names_of_cat = refl;
  names_of_verify_index = refl;
  names_of_chop = refl;
  names_of_cache = refl;
  names_of_list_chunks = refl;
  names_of_info = refl;
  names_of_prune = refl;
  groups_of_extract = refl;
  groups_of_cat = refl;
  groups_of_cache = refl;
  groups_of_info = refl;
  groups_of_chunk_server = refl;
  store_takes = refl;
  seed_takes = refl;
}

-- ---- what is missing once all words have passed

has_enough : (store cache listen agreed few both : Bool) → (if store || (cache || listen) then Some why.MissingOption else (if agreed then Some why.NeedsYes else (if few then Some why.Operands else (if both then Some why.ReadOnly else None)))) ≡ None
    → (store ≡ false) × (few ≡ false)
has_enough true cache listen agreed few both e = absurd (none-some why.MissingOption (sym e))
has_enough false true listen agreed few both e = absurd (none-some why.MissingOption (sym e))
has_enough false false true agreed few both e = absurd (none-some why.MissingOption (sym e))
has_enough false false false true few both e = absurd (none-some why.NeedsYes (sym e))
has_enough false false false false true both e = absurd (none-some why.Operands (sym e))
has_enough false false false false false both e = (refl, refl)

-- ---- how many words have each role

record Counts (k : CommandKind) (roles : List Role) (words : List (List ℕ)) : Type 0 where
  least : (times_of k option.Store).least ≤ times_of_role (role.Value option.Store) roles
  greatest : (o : OptionKind) → takes_value o ≡ true → times_of_role (role.Value o) roles ≤ (times_of k o).greatest
  operands_least : (takes_of k).operands.least ≤ times_of_role role.Operand roles
  operands_greatest : (takes_of k).takes_numbers ≡ false → times_of_role role.Operand roles ≤ (takes_of k).operands.greatest
  as_many : (r : Role) → length (words_as r roles words) ≡ times_of_role r roles
  operands_pass : (i : ℕ) → i < times_of_role role.Operand roles → operand_refusal k i (word_as role.Operand i roles words) ≡ None
  values_pass : (o : OptionKind) (i : ℕ) → i < times_of_role (role.Value o) roles → PassesAs k o (word_as (role.Value o) i roles words)
  few : takes_groups k ≡ true → stores_named (by_role roles words) ≤ 16

counts : (k : CommandKind) (words : List (List ℕ)) (roles : List Role) → Passes k words roles → why_not_whole k roles ≡ None → Counts k roles words
counts k words roles p none =
    let few = nat_lt (times_of_role role.Operand roles) (takes_of k).operands.least in
    let enough = has_enough (lacks k roles option.Store) (lacks k roles option.Cache) (lacks k roles option.Listen) (lacks k roles option.Yes) few (is_given option.Cache roles && is_given option.Writable roles) none in
    let values : (o : OptionKind) → takes_value o ≡ true → times_of_role (role.Value o) roles ≡ times_of_role (role.Given o) roles
    = λ o takes. subst (λ r. times_of_role (role.Value o) r ≡ times_of_role (role.Given o) r) (sym p.roles_are) (values_counted k words o takes p.pass p.ended) in
    record {
      least = omega (arith, ltb-false _ _ enough.0, values option.Store rows.store_takes);
      greatest = λ o takes. omega (arith, values o takes, subst (λ r. times_of_role (role.Given o) r ≤ (times_of k o).greatest) (sym p.roles_are) (options_bounded k words o p.pass));
      operands_least = omega (arith, ltb-false _ _ enough.1);
      operands_greatest = λ names. subst (λ r. times_of_role role.Operand r ≤ (takes_of k).operands.greatest) (sym p.roles_are) (operands_bounded k words names p.pass);
      as_many = λ r. words_counted r roles words (ap length p.roles_are ∙ roles_length k words);
      operands_pass = subst (λ r. (i : ℕ) → i < times_of_role role.Operand r → operand_refusal k i (word_as role.Operand i r words) ≡ None) (sym p.roles_are) (operands_pass k words p.pass);
      values_pass = λ o. subst (λ r. (i : ℕ) → i < times_of_role (role.Value o) r → PassesAs k o (word_as (role.Value o) i r words)) (sym p.roles_are) (values_pass k words o p.pass);
      few = λ groups. subst (λ r. stores_named (by_role r words) ≤ 16) (sym p.roles_are) (stores_few k words groups p.pass);
    }

stores_counted : (k : CommandKind) (roles : List Role) (words : List (List ℕ)) → Counts k roles words → length (stores (by_role roles words)) ≡ times_of_role (role.Value option.Store) roles
stores_counted k roles words c = length-map (words_as (role.Value option.Store) roles words) group_of ∙ c.as_many (role.Value option.Store)

-- ---- a number

same_some : (x y : ℕ) → Some x ≡ Some y → x ≡ y
same_some x y e = cc

digit_by : (most m n : ℕ) (digit small : Bool) → nat_le n most ≡ small → (if digit && small then Some n else None) ≡ Some m → m ≤ most
digit_by most m n true true le e = omega (arith, same_some _ _ e, leb-true n most le)
digit_by most m n true false le e = absurd (none-some m e)
digit_by most m n false small le e = absurd (none-some m e)

digit_bounded : (most n c m : ℕ) → with_digit most n c ≡ Some m → m ≤ most
digit_bounded most n c m e = digit_by most m (n * 10 + (c - 48)) (is_ascii_digit c) (nat_le (n * 10 + (c - 48)) most) refl e

digits_by : (most m : ℕ) (cs : List ℕ) (d : Option ℕ) → ((n : ℕ) → d ≡ Some n → n ≤ most) → ((n : ℕ) → n ≤ most → with_digits most n cs ≡ Some m → m ≤ most)
    → elim d [ None ↦ None | Some n ↦ with_digits most n cs ] ≡ Some m → m ≤ most
digits_by most m cs None small rest e = absurd (none-some m e)
digits_by most m cs (Some n) small rest e = rest n (small n refl) e

digits_bounded : (most n m : ℕ) (w : List ℕ) → n ≤ most → with_digits most n w ≡ Some m → m ≤ most
digits_bounded most n m [] le e = omega (arith, le, same_some _ _ e)
digits_bounded most n m (c ∷ cs) le e = digits_by most m cs (with_digit most n c) (digit_bounded most n c) (λ d le. digits_bounded most d m cs le) e

-- what a test lets through
else_by : (most m : ℕ) (b : Bool) (o : Option ℕ) → ((n : ℕ) → o ≡ Some n → n ≤ most) → (if b then None else o) ≡ Some m → m ≤ most
else_by most m true o small e = absurd (none-some m e)
else_by most m false o small e = small m e

then_by : (most m n : ℕ) (b : Bool) → n ≤ most → (if b then Some n else None) ≡ Some m → m ≤ most
then_by most m n true le e = omega (arith, le, same_some _ _ e)
then_by most m n false le e = absurd (none-some m e)

from_by : (least most m : ℕ) (o : Option ℕ) → ((n : ℕ) → o ≡ Some n → n ≤ most) → elim o [ None ↦ None | Some n ↦ if nat_le least n then Some n else None ] ≡ Some m → m ≤ most
from_by least most m None small e = absurd (none-some m e)
from_by least most m (Some n) small e = then_by most m n (nat_le least n) (small n refl) e

unwrapped : (most : ℕ) (o : Option ℕ) → ((n : ℕ) → o ≡ Some n → n ≤ most) → unwrap_or o 0 ≤ most
unwrapped most None small = omega arith
unwrapped most (Some n) small = small n refl

number_bounded : (most : ℕ) (w : List ℕ) → number most w ≤ most
number_bounded most w = unwrapped most (number_in_word 0 most w) (λ n. from_by 0 most n (number_up_to most w) (λ m. else_by most m _ (with_digits most 0 w) (λ d. digits_bounded most 0 d w (omega arith))))

-- ---- groups of stores

group_counted : (w : List ℕ) → length (group_of w) ≡ length (parts_of w)
group_counted w = length-map (parts_of w) (λ part. read_location (location_of part))

each_has : (ws : List (List ℕ)) → All (λ (g : List Location). 1 ≤ length g) (map group_of ws)
each_has ws = All-map (λ g. 1 ≤ length g) group_of ws (All-from_get_or (λ w. 1 ≤ length (group_of w)) ws [] (λ i lt.
    let w = get_or ws i [] in
    omega (arith, group_counted w, length-slice_split (λ c. c == 124) w)))

groups_counted : (ws : List (List ℕ)) → sum_by length (map group_of ws) ≡ sum_by (λ w. length (parts_of w)) ws
groups_counted [] = refl
groups_counted (w ∷ ws) = sum_by-cons length (group_of w) (map group_of ws) ∙ ap₂ (λ m n. m + n) (group_counted w) (groups_counted ws) ∙ sym (sum_by-cons (λ v. length (parts_of v)) w ws)

few_stores : (k : CommandKind) (roles : List Role) (words : List (List ℕ)) → Counts k roles words → takes_groups k ≡ true → AreFewStores (stores (by_role roles words)) (retries (by_role roles words))
few_stores k roles words c groups = (
  each_has (words_as (role.Value option.Store) roles words),
  omega (arith, groups_counted (words_as (role.Value option.Store) roles words), c.few groups),
  number_bounded 16 (value option.Retries (by_role roles words)),
)

-- ---- the place of an index

placed : (place : Result IndexPlace NoLocation) → place_refusal place ≡ None → place ≡ Err no.Bad → ⊥
placed (Ok p) e bad = absurd cc
placed (Err no.Bad) e bad = absurd (none-some _ (sym e))
placed (Err no.Memory) e bad = absurd (none-some _ (sym e))

-- an index that is read, or is written
Names : Bool → List ℕ → Type 0
Names true w = is_index_url w ≡ false
Names false w = NamesIndex w

not_true : (b : Bool) → not b ≡ true → b ≡ false
not_true true e = absurd (true≢false (sym e))
not_true false e = refl

index_by : (is_written : Bool) (w : List ℕ) → index_refusal is_written w ≡ None → Names is_written w
unfolding Names
index_by true w e = not_true (is_index_url w) (is_right (not (is_index_url w)) _ e)
index_by false w e = placed (index_place_of w) e

-- an operand that passes as one of the first, which are indexes
named : (takes : Takes) (i : ℕ) (w : List ℕ) (numbers : Bool) → numbers ≡ false → i < takes.indexes
    → (if numbers then demo_operand_refusal i w else name_operand_refusal takes i w) ≡ None → Names takes.writes_index w
named takes i w true is lt e = absurd (true≢false is)
named takes i w false is lt e = index_by takes.writes_index w (sym (cond-true _ _ _ (lt-ltb _ _ lt)) ∙ (named_right _ _ _ _ _ e).1)

-- the command's operands from the first on are indexes, which it reads or writes
index_at : (k : CommandKind) (roles : List Role) (words : List (List ℕ)) (takes : Takes) (i : ℕ) → Counts k roles words → takes_of k ≡ takes → takes.takes_numbers ≡ false
    → i < takes.indexes → i < times_of_role role.Operand roles → Names takes.writes_index (word_as role.Operand i roles words)
index_at k roles words takes i c is numbers lt few =
    let w = word_as role.Operand i roles words in
    named takes i w takes.takes_numbers numbers lt
    (subst (λ t. (if t.takes_numbers then demo_operand_refusal i w else name_operand_refusal t i w) ≡ None) is (c.operands_pass i few))

-- the first operand of a command that reads an index
index_first : (k : CommandKind) (roles : List Role) (words : List (List ℕ)) (n : ℕ) → Counts k roles words → takes_of k ≡ names (suc n) (suc n) 1 → NamesIndex (operand 0 (by_role roles words))
unfolding Names
index_first k roles words n c is = index_at k roles words (names (suc n) (suc n) 1) 0 c is refl (omega arith) (omega (arith, c.operands_least, ap (λ t. t.operands.least) is))

-- all operands of a command that reads indexes alone
indexes_all : (k : CommandKind) (roles : List Role) (words : List (List ℕ)) (takes : Takes) → Counts k roles words → takes_of k ≡ takes → takes.takes_numbers ≡ false
    → takes.writes_index ≡ false → takes.operands.greatest ≤ takes.indexes → All NamesIndex (words_as role.Operand roles words)
unfolding Names
indexes_all k roles words takes c is numbers reads le =
    All-from_get_or NamesIndex (words_as role.Operand roles words) [] (λ i lt.
    let few : i < times_of_role role.Operand roles = omega (arith, lt, c.as_many role.Operand) in
    let most = c.operands_greatest (ap (λ t. t.takes_numbers) is ∙ numbers) in
    subst (λ b. Names b (word_as role.Operand i roles words)) reads
    (index_at k roles words takes i c is numbers (omega (arith, few, most, le, ap (λ t. t.operands.greatest) is)) few))

both_true : (a b : Bool) → a && not b ≡ true → b ≡ false
both_true true b e = not_true b e
both_true false b e = absurd (true≢false (sym e))

seed_by : (empty right : Bool) → name_refusal empty right why.BadSeed ≡ None → right ≡ true
seed_by true right e = absurd (none-some _ (sym e))
seed_by false right e = is_right right _ e

-- the indexes of seeds are files
seeds_all : (k : CommandKind) (roles : List Role) (words : List (List ℕ)) → Counts k roles words → All (λ w. is_index_url w ≡ false) (words_as (role.Value option.Seed) roles words)
seeds_all k roles words c =
    All-from_get_or (λ w. is_index_url w ≡ false) (words_as (role.Value option.Seed) roles words) [] (λ i lt.
    let w = word_as (role.Value option.Seed) i roles words in
    both_true (ends_in_caibx w) (is_index_url w) (seed_by (is_empty w) (is_seed w) (c.values_pass option.Seed i (omega (arith, lt, c.as_many (role.Value option.Seed)))).1))

-- ---- each command

index_of_make : (roles : List Role) (words : List (List ℕ)) → Counts command.Make roles words → is_index_url (operand 0 (by_role roles words)) ≡ false
unfolding Names
index_of_make roles words c = index_at command.Make roles words written_index 0 c rows.names_of_make refl (omega arith) (omega (arith, c.operands_least, ap (λ t. t.operands.least) rows.names_of_make))

either_fits : (b : Bool) (c d : Command) → Fits c → Fits d → Fits (if b then c else d)
either_fits true c d one other = one
either_fits false c d one other = other

kept : (k : CommandKind) (roles : List Role) (words : List (List ℕ)) → Counts k roles words → Fits (command_by_roles k (by_role roles words))
kept command.Make roles words c = index_of_make roles words c
kept command.Extract roles words c =
    let stores = stores_counted command.Extract roles words c in (
      omega (arith, stores, c.least, ap (λ t. t.least) rows.stores_of_extract),
      few_stores command.Extract roles words c rows.groups_of_extract,
      omega (arith, c.as_many (role.Value option.Seed), c.greatest option.Seed rows.seed_takes, ap (λ t. t.greatest) rows.seeds_of_extract),
      seeds_all command.Extract roles words c,
      index_first command.Extract roles words 1 c rows.names_of_extract,
    )
kept command.Cat roles words c =
    let stores = stores_counted command.Cat roles words c in (
      omega (arith, stores, c.least, ap (λ t. t.least) rows.stores_of_cat),
      few_stores command.Cat roles words c rows.groups_of_cat,
      index_first command.Cat roles words 0 c rows.names_of_cat,
    )
kept command.VerifyIndex roles words c = index_first command.VerifyIndex roles words 1 c rows.names_of_verify_index
kept command.Chop roles words c = index_first command.Chop roles words 1 c rows.names_of_chop
kept command.Cache roles words c =
    let stores = stores_counted command.Cache roles words c in (
      omega (arith, stores, c.least, ap (λ t. t.least) rows.stores_of_cache),
      few_stores command.Cache roles words c rows.groups_of_cache,
      omega (arith, c.as_many role.Operand, c.operands_least, ap (λ t. t.operands.least) rows.names_of_cache),
      omega (arith, c.as_many role.Operand, c.operands_greatest (ap (λ t. t.takes_numbers) rows.names_of_cache), ap (λ t. t.operands.greatest) rows.names_of_cache),
      indexes_all command.Cache roles words (names 1 64 64) c rows.names_of_cache refl refl (omega arith),
    )
kept command.ListChunks roles words c = index_first command.ListChunks roles words 0 c rows.names_of_list_chunks
kept command.Info roles words c = (
  few_stores command.Info roles words c rows.groups_of_info,
  index_first command.Info roles words 0 c rows.names_of_info,
)
kept command.Verify roles words c = tt
kept command.Prune roles words c = (
  omega (arith, c.as_many role.Operand, c.operands_least, ap (λ t. t.operands.least) rows.names_of_prune),
  omega (arith, c.as_many role.Operand, c.operands_greatest (ap (λ t. t.takes_numbers) rows.names_of_prune), ap (λ t. t.operands.greatest) rows.names_of_prune),
  indexes_all command.Prune roles words (folder_and_indexes 1 64) c rows.names_of_prune refl refl (omega arith),
)
kept command.ChunkServer roles words c =
    let p = by_role roles words in
    let stores = stores_counted command.ChunkServer roles words c in
    either_fits (is_given option.Cache roles) (proxy p) _ (
      omega (arith, stores, c.least, ap (λ t. t.least) rows.stores_of_chunk_server),
      few_stores command.ChunkServer roles words c rows.groups_of_chunk_server,
    ) tt
kept command.IndexServer roles words c = tt
kept command.Demo roles words c = number_bounded 536870912 (operand 1 (by_role roles words))

-- ---- all words

is_ok : (r : Result Command WordsFault) (x y : Command) → r ≡ Ok x → r ≡ Ok y → x ≡ y
is_ok r x y a b = cc

complete_fits : (f : Option WordsFault) (c d : Command) → (f ≡ None → Fits c) → complete f c ≡ Ok d → Fits d
complete_fits (Some x) c d fits e = absurd cc
complete_fits None c d fits e = subst Fits (is_ok (Ok c) c d refl e) (fits refl)

-- where words are no fault as a whole, nothing is missing
none_missing : {X Y : Type 0} (first : Option X) (rest : Option Y) (f : Y → X) → option_or first (option_map f rest) ≡ None → rest ≡ None
none_missing (Some x) rest f e = absurd cc
none_missing None (Some y) f e = absurd cc
none_missing None None f e = refl

by_fits : (k : CommandKind) (words : List (List ℕ)) (c : Command) (r : Result (List Role) WordsFault) → judged k words ≡ r → command_by k words r ≡ Ok c → Fits c
by_fits k words c (Err f) is e = absurd cc
by_fits k words c (Ok roles) is e = complete_fits (whole_fault k (by_role roles words)) _ c (λ none. kept k roles words (counts k words roles (judged_right k words roles is) (none_missing (folder_fault k (by_role roles words)) (why_not_whole k roles) _ none))) e

if_fits : (b : Bool) (d c : Command) (rest : Result Command WordsFault) → Fits d → (rest ≡ Ok c → Fits c) → (if b then Ok d else rest) ≡ Ok c → Fits c
if_fits true d c rest now later e = subst Fits (is_ok (Ok d) d c refl e) now
if_fits false d c rest now later e = later e

named_fits : (k : Option CommandKind) (words : List (List ℕ)) (c : Command) → command_or_help k words ≡ Ok c → Fits c
named_fits None words c e = absurd cc
named_fits (Some k) words c e = if_fits (is_alone words (codes "--help")) (said.HelpOn k) c (command_with k words) tt (by_fits k words c (judged k words) refl) e

pub fits : (words : List (List ℕ)) (c : Command) → command_line words ≡ Ok c → Fits c
fits [] c e = absurd cc
fits (w ∷ words) c e =
    let help = is_alone (w ∷ words) (codes "--help") in
    let version = is_alone (w ∷ words) (codes "--version") in
    let rest = command_or_help (command_named w) words in
    if_fits help said.Help c (if version then Ok said.Version else rest) tt
    (if_fits version said.Version c rest tt (named_fits (command_named w) words c)) e

-- what is answered of the words fits where it is a command
pub answer_fits : (words : List (List ℕ)) (result : Result Command WordsFault) → ReadsWords words result → IfOk result Fits
answer_fits words (Ok c) e = fits words c e
answer_fits words (Err f) e = tt
