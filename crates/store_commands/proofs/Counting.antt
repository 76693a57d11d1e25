-- What stores of folders hold, and how counting in them ends.
use Rattle.std.proofs.Common.{◌≡◌, ◌<◌, ◌≤◌, ◌+◌, ℕ, suc, arith, All, Bool, true, false, if◌then◌else◌, [], ◌∷◌, length, inl, inr, refl, sym, subst, List, map, Option, Some, None, IfSome, ◌∙◌}
use Rattle.std.specs.List.{AllZip}
use Rattle.std.proofs.lemmas.List.Elements.{All-cons, All-nil, length_all_zip}
use Rattle.caibx_codec.specs.Listing.{Listing, count_of, id_of}
use Rattle.chunk_store.specs.Said.{KeepsOf, Said}
use Rattle.store_chain.specs.Refusals.{HasFails}
use Rattle.store_chain.specs.declared.refused.HasFault.{HasFault}
use Rattle.store_chain.specs.declared.refused.HasFault.TheVariants as has
use Rattle.chunk_store.specs.Folders.{chunks}
use Rattle.dsy_base.specs.Maps.{Map}
use Rattle.verify_tool.specs.Counts.{AsksBefore, DeniesOthers, FailsAtEntry, held_count, is_listed_before}
use Rattle.command_words.specs.declared.command.Location.{Location}
use Rattle.command_groups.specs.Groups.{group_files}
use Rattle.store_commands.specs.Info.{asks_once}

-- the count is exact where all groups tell
pub counted_told : {S : Type 0} (sure : Bool) (folders : Option (Map (Map (List ℕ)))) (groups : List (List Location)) (l : Listing) (files holds : S → Option (Map (List ℕ))) (xs : List S) (n : ℕ)
    → IfSome folders (λ m. map files xs ≡ map (group_files sure m) groups) → ((fs : List (Map (List ℕ))) → map files xs ≡ map Some fs → map holds xs ≡ map Some (map chunks fs))
    → ((maps : List (Map (List ℕ))) → map holds xs ≡ map Some maps → n ≡ held_count l maps)
    → IfSome folders (λ m. (fs : List (Map (List ℕ))) → map (group_files sure m) groups ≡ map Some fs → n ≡ held_count l (map chunks fs))
counted_told sure None groups l files holds xs n found hold value = tt
counted_told sure (Some m) groups l files holds xs n found hold value = λ fs told. value (map chunks fs) (hold fs (found ∙ told))

-- a count that a store's fault ended: when the stores were asked for the id of an entry, that one was the first to fail
pub record Ended {S : Type 0} (said : S → Said) (faults : S → ℕ) (l : Listing) (s : ℕ) (after : List S) : Type 0 where
  pub entry : ℕ
  pub listed : entry < count_of l
  pub before : List S
  pub many : length before ≡ length after
  pub fails : HasFails said faults (id_of l entry) before after (has.StoreFault s)

pub ended_by : {S : Type 0} (holds : S → Option (Map (List ℕ))) (said : S → Said) (queried : S → List ℕ → ℕ) (faults : S → ℕ) (l : Listing) (old after : List S) (fault : HasFault) (s : ℕ) → fault ≡ has.StoreFault s → length old ≡ length after
    → FailsAtEntry holds said queried faults l old after fault → Ended said faults l s after
ended_by {S} holds said queried faults l old after fault s is many h = record {
  entry = h.entry;
  listed = h.listed;
  before = h.before;
  many = sym (length_all_zip (λ a b. AsksBefore l h.entry (queried a) (queried b)) old h.before h.reaches.asked) ∙ many;
  fails = elim h.ends as (λ _. HasFails said faults (id_of l h.entry) h.before after (has.StoreFault s)) [
    | inl e ↦ subst (λ (f : HasFault). HasFails said faults (id_of l h.entry) h.before after f) is e.1
    | inr e ↦ let no : has.StoreFault s ≡ has.Memory = sym is ∙ e.0 in absurd (cc)
  ];
}

-- what all groups have said that were given back
module _ {S X : Type 0} (words : S → X) (said : S → Said) (told : X → Said) where
  abbrev Says : S → Type 0
  Says s = (id : List ℕ) → KeepsOf (said s) (told (words s)) id

  all_denied : (id : List ℕ) (xs : List S) (names : List X) → map words xs ≡ names → All Says xs → All (λ s. (said s).denied id) xs → All (λ q. (told q).denied id) names
  all_denied id [] [] same says all = All-nil (λ q. (told q).denied id)
  all_denied id [] (q ∷ names) same says all = absurd (cc)
  all_denied id (x ∷ xs) [] same says all = absurd (cc)
  all_denied id (x ∷ xs) (q ∷ names) same says all =
      let here : words x ≡ q = cc in
      let rest : map words xs ≡ names = cc in
      let denied : (told (words x)).denied id = (says 0 x (omega arith) id).denied (all 0 x (omega arith)) in
      All-cons (λ q. (told q).denied id) q names (subst (λ r. (told r).denied id) here denied)
      (all_denied id xs names rest (λ j y lt. says (suc j) y (omega (arith, lt))) (λ j y lt. all (suc j) y (omega (arith, lt))))

  pub others_denied : (l : Listing) (n : ℕ) (xs : List S) (names : List X) → map words xs ≡ names → All Says xs → DeniesOthers said l (count_of l) n xs → DeniesOthers told l (count_of l) n names
  others_denied l n xs names same says d = record { held = d.held; many = d.many; denied = λ id listed other. all_denied id xs names same says (d.denied id listed other) }

few_before : (l : Listing) (n : ℕ) (old new : List ℕ → ℕ) → AsksBefore l n old new → (id : List ℕ) (b : Bool) → is_listed_before l n id ≡ b → new id ≤ old id + (if b then 1 else 0)
few_before l n old new h id true is = h.once id
few_before l n old new h id false is = let same = h.others id is in omega (arith, same)

pub each_once : {S : Type 0} (queried : S → List ℕ → ℕ) (l : Listing) (xs ys : List S) → AllZip (λ a b. AsksBefore l (count_of l) (queried a) (queried b)) xs ys → AllZip (λ a b. (id : List ℕ) → queried b id ≤ queried a id + asks_once l id) xs ys
each_once queried l [] [] h = tt
each_once queried l [] (y ∷ ys) h = absurd h
each_once queried l (x ∷ xs) [] h = absurd h
each_once queried l (x ∷ xs) (y ∷ ys) h = (λ id. few_before l (count_of l) (queried x) (queried y) h.0 id (is_listed_before l (count_of l) id) refl, each_once queried l xs ys h.1)
