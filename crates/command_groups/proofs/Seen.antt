-- What groups of stores tell, by the lists of what their stores tell.
use Rattle.std.proofs.Common.{inl, inr, IfSome, ◌≡◌, ◌∙◌, ◌<◌, ℕ, zero, suc, Bool, true, false, ◌&&◌, List, [], ◌∷◌, ◌++◌, length, map, is_some, slice_index, Option, Some, None, refl, sym, ap, arith}
use Rattle.std.proofs.lemmas.List.{map-append}
use Rattle.std.proofs.lemmas.List.Elements.{All-cons, All-head, All-nil, All-tail}
use Rattle.std.specs.List.{All, Any}
use Rattle.std.specs.Option.{option_map}
use Rattle.chunk_store.proofs.Said.{keeps_itself}
use Rattle.chunk_store.specs.Folders.{chunks}
use Rattle.chunk_store.proofs.Members.{any_cons, any_here, any_next}
use Rattle.chunk_store.specs.Members.{AllOrNone, GroupsAgree, maps_of, told_together}
use Rattle.chunk_store.specs.Said.{KeepsOf, Said, just_one}
use Rattle.command_groups.specs.Groups.{group_files, listed_files, member_files}
use Rattle.command_groups.specs.Opened.{files_in, told_chunks, told_files, told_members}
use Rattle.command_steps.specs.AnyStores.{chunks_in, source_files}
use Rattle.command_steps.specs.Sources.{location_files}
use Rattle.command_steps.specs.declared.any_store.AnyStore.{AnyStore}
use Rattle.command_words.specs.declared.command.Location.{Location}
use Rattle.dsy_base.specs.Maps.{Map}
use Rattle.store_chain.proofs.Pairs.{cons_head, cons_tail}
use Rattle.store_group.specs.Groups.{AtStore, Grouped, all_tell, told_or_all, of_one, said_of, said_steady, seen_of, steady_of, steady_store}

-- ---- lists of what is told

-- what a list tells whose first element is asked first
abbrev pub told_list : {X : Type 0} → Bool → List (Option X) → Option X
told_list sure os = seen_of (λ o. o) os (steady_of (sure && all_tell (λ o. o) os) 0 os)

module _ {S X : Type 0} (f : S → Option X) where
  one_map : (xs : List S) → of_one f xs ≡ of_one (λ o. o) (map f xs)
  one_map [] = refl
  one_map (x ∷ []) = refl
  one_map (x ∷ y ∷ xs) = refl

  tell_map : (xs : List S) → all_tell f xs ≡ all_tell (λ o. o) (map f xs)
  tell_map [] = refl
  tell_map (x ∷ xs) = λ i. is_some (f x) && tell_map xs i

  seen_map : (b : Bool) (n : ℕ) (xs : List S) → seen_of f xs (steady_of b n xs) ≡ seen_of (λ o. o) (map f xs) (steady_of b n (map f xs))
  seen_map false n xs = one_map xs
  seen_map true (suc n) xs = one_map xs
  seen_map true zero [] = refl
  seen_map true zero (x ∷ xs) = refl

first_at : {S : Type 0} (P : S → Type 0) (k : ℕ) (x : S) (xs : List S) → k ≡ 0 → P x → AtStore P k (x ∷ xs)
first_at P zero x xs first h = h
first_at P (suc k) x xs first h = absurd (omega (arith, first))

-- what the first has said, some store has
keeps_any : {S : Type 0} (said : S → Said) (b : Bool) (n : ℕ) (xs : List S) (id : List ℕ) → KeepsOf (said_steady said xs (steady_of b n xs)) (said_of said xs) id
keeps_any said false n xs id = keeps_itself (said_of said xs) id
keeps_any said true (suc n) xs id = keeps_itself (said_of said xs) id
keeps_any said true zero [] id = keeps_itself (said_of said []) id
keeps_any said true zero (x ∷ xs) id = record {
  denied = inl;
  shown = λ b. inl;
  longer = λ n. inl;
  taken = λ b. inl;
  shown_by = λ k b h. first_at (λ s. (said s).shown id b) k x xs h.0 h.1;
  longer_by = λ k n h. first_at (λ s. (said s).longer id n) k x xs h.0 h.1;
}

pub group_keeps : {S : Type 0} (said : S → Said) (told : Bool) (holds : S → Option (Map (List ℕ))) (g : Grouped S) (id : List ℕ) → KeepsOf (said_steady said g.stores (steady_store told holds g)) (said_of said g.stores) id
group_keeps said told holds g id = keeps_any said (told && all_tell holds g.stores) g.active g.stores id

-- ---- groups of stores of a command

some_chunks : (o : Option (Map (List ℕ))) → is_some (option_map chunks o) ≡ is_some o
some_chunks None = refl
some_chunks (Some m) = refl

words_listed : (sure : Bool) (m : Map (Map (List ℕ))) (q : List Location) → group_files sure m q ≡ told_list sure (map (location_files m) q)
words_listed sure m q =
    seen_map (location_files m) (sure && all_tell (location_files m) q) 0 q
    ∙ ap (λ (b : Bool). seen_of (λ o. o) (map (location_files m) q) (steady_of (sure && b) 0 (map (location_files m) q))) (tell_map (location_files m) q)

-- what a group holds, by the files of its folders
abbrev pub held_by : Bool → List (Option (Map (List ℕ))) → Option (Map (List ℕ))
held_by sure folders = option_map chunks (told_list sure folders)

-- and what those hold who answer in its name
abbrev pub members_by : Bool → List (Option (Map (List ℕ))) → Option (List (Map (List ℕ)))
members_by sure folders = told_or_all (held_by sure folders) (told_together (map (λ o. just_one (option_map chunks o)) folders))

known_each : (sure : Bool) (m : Map (Map (List ℕ))) (groups : List (List Location)) → map (held_by sure) (map (map (location_files m)) groups) ≡ map (λ g. option_map chunks (group_files sure m g)) groups
known_each sure m [] = refl
known_each sure m (q ∷ groups) = λ i. option_map chunks (sym (words_listed sure m q) i) ∷ known_each sure m groups i

-- the same by what is listed of each folder
listed_each : (m : Map (Map (List ℕ))) (q : List Location) → map (λ o. just_one o) (map (location_files m) q) ≡ map (listed_files m) q
listed_each m [] = refl
listed_each m (s ∷ q) = λ i. just_one (location_files m s) ∷ listed_each m q i

more_chunks : (f : Map (List ℕ)) (o : Option (List (Map (List ℕ)))) → option_map (λ ys. chunks f ∷ ys) (option_map (map chunks) o) ≡ option_map (map chunks) (option_map (λ ys. f ∷ ys) o)
more_chunks f None = refl
more_chunks f (Some ys) = refl

folders_together : (os : List (Option (Map (List ℕ)))) → told_together (map (λ o. just_one (option_map chunks o)) os) ≡ option_map (map chunks) (told_together (map (λ o. just_one o) os))
folders_together [] = refl
folders_together (None ∷ os) = refl
folders_together (Some f ∷ os) = ap (option_map (λ ys. chunks f ∷ ys)) (folders_together os) ∙ more_chunks f (told_together (map (λ o. just_one o) os))

members_listed : (o : Option (Map (List ℕ))) (os : List (Option (Map (List ℕ)))) → told_or_all (option_map chunks o) (told_together (map (λ o. just_one (option_map chunks o)) os)) ≡ option_map (map chunks) (told_or_all o (told_together (map (λ o. just_one o) os)))
members_listed None os = folders_together os
members_listed (Some f) os = refl

-- what those hold who answer for a group of these words
words_members : (sure : Bool) (m : Map (Map (List ℕ))) (q : List Location) → members_by sure (map (location_files m) q) ≡ option_map (map chunks) (member_files sure m q)
words_members sure m q =
    members_listed (told_list sure (map (location_files m) q)) (map (location_files m) q)
    ∙ (λ i. option_map (map chunks) (told_or_all (sym (words_listed sure m q) i) (told_together (listed_each m q i))))

members_each : (sure : Bool) (m : Map (Map (List ℕ))) (groups : List (List Location)) → map (members_by sure) (map (map (location_files m)) groups) ≡ map (λ g. option_map (map chunks) (member_files sure m g)) groups
members_each sure m [] = refl
members_each sure m (q ∷ groups) = λ i. words_members sure m q i ∷ members_each sure m groups i

-- chunks that are told together are those of files that are
joined_chunks : (xs : List (Map (List ℕ))) (o : Option (List (Map (List ℕ)))) → option_map (λ ys. map chunks xs ++ ys) (option_map (map chunks) o) ≡ option_map (map chunks) (option_map (λ ys. xs ++ ys) o)
joined_chunks xs None = refl
joined_chunks xs (Some ys) = ap Some (sym (map-append chunks xs ys))

pub members_told : (sure : Bool) (m : Map (Map (List ℕ))) (groups : List (List Location))
    → told_together (map (λ g. option_map (map chunks) (member_files sure m g)) groups) ≡ option_map (map chunks) (maps_of (member_files sure m) groups)
members_told sure m [] = refl
members_told sure m (q ∷ groups) = go (member_files sure m q) (members_told sure m groups) where
  go : (o : Option (List (Map (List ℕ)))) → told_together (map (λ g. option_map (map chunks) (member_files sure m g)) groups) ≡ option_map (map chunks) (maps_of (member_files sure m) groups)
      → told_together (option_map (map chunks) o ∷ map (λ g. option_map (map chunks) (member_files sure m g)) groups) ≡ option_map (map chunks) (told_together (o ∷ map (member_files sure m) groups))
  go None rest = refl
  go (Some xs) rest = ap (option_map (λ ys. map chunks xs ++ ys)) rest ∙ joined_chunks xs (maps_of (member_files sure m) groups)

-- those who agree over files agree over their chunks
any_file : (P : Map (List ℕ) → Type 0) (fs : List (Map (List ℕ))) → Any P (map chunks fs) → Any (λ f. P (chunks f)) fs
any_file P [] any = let less : any.0 < 0 = any.2 in absurd (omega (arith, less))
any_file P (f ∷ fs) any = elim (any_cons P (chunks f) (map chunks fs) any) [
  | inl here ↦ any_here (λ f. P (chunks f)) f fs here
  | inr later ↦ any_next (λ f. P (chunks f)) f fs (any_file P fs later)
]

all_chunks : (P : Map (List ℕ) → Type 0) (fs : List (Map (List ℕ))) → All (λ f. P (chunks f)) fs → All P (map chunks fs)
all_chunks P [] all = All-nil P
all_chunks P (f ∷ fs) all = All-cons P (chunks f) (map chunks fs) (All-head (λ f. P (chunks f)) f fs all) (all_chunks P fs (All-tail (λ f. P (chunks f)) f fs all))

alike_chunks : (P : Map (List ℕ) → Type 0) (o : Option (List (Map (List ℕ)))) → IfSome o (AllOrNone (λ f. P (chunks f))) → IfSome (option_map (map chunks) o) (AllOrNone P)
alike_chunks P None alike = tt
alike_chunks P (Some fs) alike = λ any. all_chunks P fs (alike (any_file P fs any))

pub chunks_agree : (P : Map (List ℕ) → Type 0) (sure : Bool) (m : Map (Map (List ℕ))) (groups : List (List Location)) → GroupsAgree (λ f. P (chunks f)) (map (member_files sure m) groups)
    → GroupsAgree P (map (λ g. option_map (map chunks) (member_files sure m g)) groups)
chunks_agree P sure m [] agree = All-nil (λ o. IfSome o (AllOrNone P))
chunks_agree P sure m (q ∷ groups) agree =
    let F : Option (List (Map (List ℕ))) → Type 0 = λ o. IfSome o (AllOrNone (λ f. P (chunks f))) in
    All-cons (λ o. IfSome o (AllOrNone P)) (option_map (map chunks) (member_files sure m q)) (map (λ g. option_map (map chunks) (member_files sure m g)) groups)
    (alike_chunks P (member_files sure m q) (All-head F (member_files sure m q) (map (member_files sure m) groups) agree))
    (chunks_agree P sure m groups (All-tail F (member_files sure m q) (map (member_files sure m) groups) agree))

-- where a group tells, it answers alone
pub alone_files : (sure : Bool) (m : Map (Map (List ℕ))) (g : List Location) → IfSome (group_files sure m g) (λ f. member_files sure m g ≡ Some (f ∷ []))
alone_files sure m g = go (group_files sure m g) where
  go : (o : Option (Map (List ℕ))) → IfSome o (λ f. told_or_all o (maps_of (listed_files m) g) ≡ Some (f ∷ []))
  go None = tt
  go (Some f) = refl

module _ {L D K : Type 0} (sure : Bool) (files : L → Option (Map (List ℕ))) where
  chunks_tell : (xs : List (AnyStore L D K)) → all_tell (chunks_in files) xs ≡ all_tell (source_files files) xs
  chunks_tell [] = refl
  chunks_tell (x ∷ xs) = λ i. some_chunks (source_files files x) i && chunks_tell xs i

  -- a group whose first store is asked first
  told_listed : (g : Grouped (AnyStore L D K)) → g.active ≡ 0 → told_files sure files g ≡ told_list sure (files_in files g)
  told_listed g first =
      let see : Bool → ℕ → Option (Map (List ℕ)) = λ b n. seen_of (source_files files) g.stores (steady_of (sure && b) n g.stores) in
      ap (see (all_tell (chunks_in files) g.stores)) first
      ∙ ap (λ (b : Bool). see b 0) (chunks_tell g.stores ∙ tell_map (source_files files) g.stores)
      ∙ seen_map (source_files files) (sure && all_tell (λ o. o) (files_in files g)) 0 g.stores

  told_in : (m : Map (Map (List ℕ))) (xs : List (Grouped (AnyStore L D K))) (groups : List (List Location)) → All (λ g. g.active ≡ 0) xs → map (files_in files) xs ≡ map (map (location_files m)) groups → map (told_files sure files) xs ≡ map (group_files sure m) groups
  told_in m [] [] first same = refl
  told_in m [] (q ∷ groups) first same = absurd (cc)
  told_in m (g ∷ xs) [] first same = absurd (cc)
  told_in m (g ∷ xs) (q ∷ groups) first same =
      let active : Grouped (AnyStore L D K) → Type 0 = λ g. g.active ≡ 0 in
      let one = told_listed g (All-head active g xs first) ∙ ap (told_list sure) (cons_head (files_in files g) (map (location_files m) q) (map (files_in files) xs) (map (map (location_files m)) groups) same) ∙ sym (words_listed sure m q) in
      let others = told_in m xs groups (All-tail active g xs first) (cons_tail (files_in files g) (map (location_files m) q) (map (files_in files) xs) (map (map (location_files m)) groups) same) in
      λ i. one i ∷ others i

  -- what was found of the folders, the groups tell
  pub groups_tell : (folders : Option (Map (Map (List ℕ)))) (xs : List (Grouped (AnyStore L D K))) (groups : List (List Location)) → All (λ g. g.active ≡ 0) xs → IfSome folders (λ m. map (files_in files) xs ≡ map (map (location_files m)) groups)
      → IfSome folders (λ m. map (told_files sure files) xs ≡ map (group_files sure m) groups)
  groups_tell None xs groups first found = tt
  groups_tell (Some m) xs groups first found = told_in m xs groups first found

  -- a group holds the chunks of the files that it tells
  one_holds : (xs : List (AnyStore L D K)) → of_one (chunks_in files) xs ≡ option_map chunks (of_one (source_files files) xs)
  one_holds [] = refl
  one_holds (x ∷ []) = refl
  one_holds (x ∷ y ∷ xs) = refl

  seen_chunks : (xs : List (AnyStore L D K)) (o : Option (AnyStore L D K)) → seen_of (chunks_in files) xs o ≡ option_map chunks (seen_of (source_files files) xs o)
  seen_chunks xs None = one_holds xs
  seen_chunks xs (Some x) = refl

  group_chunks : (g : Grouped (AnyStore L D K)) → told_chunks sure files g ≡ option_map chunks (told_files sure files g)
  group_chunks g = seen_chunks g.stores (steady_store sure (chunks_in files) g)

  pub groups_hold : (xs : List (Grouped (AnyStore L D K))) (fs : List (Map (List ℕ))) → map (told_files sure files) xs ≡ map Some fs → map (told_chunks sure files) xs ≡ map Some (map chunks fs)
  groups_hold [] [] told = refl
  groups_hold [] (f ∷ fs) told = absurd (cc)
  groups_hold (g ∷ xs) [] told = absurd (cc)
  groups_hold (g ∷ xs) (f ∷ fs) told =
      let one : told_chunks sure files g ≡ Some (chunks f) = group_chunks g ∙ ap (option_map chunks) (cons_head (told_files sure files g) (Some f) (map (told_files sure files) xs) (map Some fs) told) in
      let others = groups_hold xs fs (cons_tail (told_files sure files g) (Some f) (map (told_files sure files) xs) (map Some fs) told) in
      λ i. one i ∷ others i

  -- ---- groups opened for the same words

  pub all_hold : (xs : List (Grouped (AnyStore L D K))) → All (λ g. g.active ≡ 0) xs → map (told_chunks sure files) xs ≡ map (held_by sure) (map (files_in files) xs)
  all_hold [] first = refl
  all_hold (g ∷ xs) first =
      let active : Grouped (AnyStore L D K) → Type 0 = λ g. g.active ≡ 0 in
      let one = group_chunks g ∙ ap (option_map chunks) (told_listed g (All-head active g xs first)) in
      let others = all_hold xs (All-tail active g xs first) in
      λ i. one i ∷ others i

  each_member : (xs : List (AnyStore L D K)) → map (λ s. just_one (chunks_in files s)) xs ≡ map (λ o. just_one (option_map chunks o)) (map (source_files files) xs)
  each_member [] = refl
  each_member (x ∷ xs) = λ i. just_one (chunks_in files x) ∷ each_member xs i

  pub all_members : (xs : List (Grouped (AnyStore L D K))) → All (λ g. g.active ≡ 0) xs → map (told_members sure files) xs ≡ map (members_by sure) (map (files_in files) xs)
  all_members [] first = refl
  all_members (g ∷ xs) first =
      let active : Grouped (AnyStore L D K) → Type 0 = λ g. g.active ≡ 0 in
      let one : told_chunks sure files g ≡ held_by sure (files_in files g) = group_chunks g ∙ ap (option_map chunks) (told_listed g (All-head active g xs first)) in
      let others = all_members xs (All-tail active g xs first) in
      λ i. told_or_all (one i) (told_together (each_member g.stores i)) ∷ others i

  -- what groups hold that were opened from these folders
  pub groups_known : (folders : Option (Map (Map (List ℕ)))) (xs : List (Grouped (AnyStore L D K))) (groups : List (List Location)) → All (λ g. g.active ≡ 0) xs → IfSome folders (λ m. map (files_in files) xs ≡ map (map (location_files m)) groups)
      → IfSome folders (λ m. map (told_chunks sure files) xs ≡ map (λ g. option_map chunks (group_files sure m g)) groups)
  groups_known None xs groups first found = tt
  groups_known (Some m) xs groups first found = all_hold xs first ∙ ap (map (held_by sure)) found ∙ known_each sure m groups

  -- and what those hold who answer for them
  pub groups_members : (folders : Option (Map (Map (List ℕ)))) (xs : List (Grouped (AnyStore L D K))) (groups : List (List Location)) → All (λ g. g.active ≡ 0) xs → IfSome folders (λ m. map (files_in files) xs ≡ map (map (location_files m)) groups)
      → IfSome folders (λ m. map (told_members sure files) xs ≡ map (λ g. option_map (map chunks) (member_files sure m g)) groups)
  groups_members None xs groups first found = tt
  groups_members (Some m) xs groups first found = all_members xs first ∙ ap (map (members_by sure)) found ∙ members_each sure m groups
