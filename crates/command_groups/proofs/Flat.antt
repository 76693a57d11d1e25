-- The stores of several groups as one list.
use Rattle.std.proofs.Common.{◌≡◌, ◌∙◌, ◌++◌, ◌+◌, ◌<◌, ◌≤◌, ℕ, zero, suc, IsTrue, List, [], ◌∷◌, length, map, slice_index_or, refl, sym, ap, subst, arith}
use Rattle.std.proofs.lemmas.List.{append-nil, append_assoc, length-append, map-append}
use Rattle.std.proofs.lemmas.List.Elements.{All-cons, All-head, All-nil, All-tail}
use Rattle.std.specs.List.{All}
use Rattle.command_groups.specs.Groups.{stores_of}
use Rattle.command_steps.proofs.Used.{Within, within_left, within_right}
use Rattle.command_steps.specs.Stores.{are_folders}
use Rattle.command_steps.specs.Uses.{IsNoneOf, folders_among}
use Rattle.command_words.specs.declared.command.Location.{Location}
use Rattle.command_words.specs.declared.command.Location.TheVariants as locations
use Rattle.store_chain.proofs.Pairs.{cons_head, cons_tail}

-- one group more
pub stores_more : (groups : List (List Location)) (g : List Location) → stores_of (groups ++ g ∷ []) ≡ stores_of groups ++ g
stores_more [] g = append-nil g
stores_more (h ∷ groups) g = ap (λ (l : List Location). h ++ l) (stores_more groups g) ∙ sym (append_assoc h (stores_of groups) g)

-- the same of groups that were opened
pub places_more : {S : Type 0} (of : S → List Location) (all rest : List S) (x : S) → all ≡ rest ++ x ∷ [] → stores_of (map of all) ≡ stores_of (map of rest) ++ of x
places_more of all rest x is = ap (λ l. stores_of (map of l)) is ∙ ap stores_of (map-append of rest (x ∷ [])) ∙ stores_more (map of rest) (of x)

-- what holds of each store of two lists
pub all_parts : (P : Location → Type 0) (front more : List Location) → All P (front ++ more) → All P front × All P more
all_parts P [] more all = (All-nil P, all)
all_parts P (q ∷ front) more all =
    let rest = all_parts P front more (All-tail P q (front ++ more) all) in
    (All-cons P q front (All-head P q (front ++ more) all) rest.0, rest.1)

-- ---- their folders

folders_append : (front more : List Location) → folders_among (front ++ more) ≡ folders_among front ++ folders_among more
folders_append [] more = refl
folders_append (locations.Folder q ∷ front) more = ap (λ (l : List (List ℕ)). q ∷ l) (folders_append front more)
folders_append (locations.Http host port prefix ∷ front) more = folders_append front more

pub folders_front : (all front more : List Location) → all ≡ front ++ more → Within (folders_among front) (folders_among all)
folders_front all front more is =
    subst (λ (l : List (List ℕ)). Within (folders_among front) l) (sym (ap folders_among is ∙ folders_append front more)) (within_left (folders_among front) (folders_among more))

pub folders_back : (all front more : List Location) → all ≡ front ++ more → Within (folders_among more) (folders_among all)
folders_back all front more is =
    subst (λ (l : List (List ℕ)). Within (folders_among more) l) (sym (ap folders_among is ∙ folders_append front more)) (within_right (folders_among front) (folders_among more))

none_both : (q : List ℕ) (front more : List (List ℕ)) → IsNoneOf q front → IsNoneOf q more → IsNoneOf q (front ++ more)
none_both q [] more none last = last
none_both q (name ∷ front) more none last = (none.0, none_both q front more none.1 last)

pub none_of_both : (q : List ℕ) (all front more : List Location) → all ≡ front ++ more → IsNoneOf q (folders_among front) → IsNoneOf q (folders_among more) → IsNoneOf q (folders_among all)
none_of_both q all front more is none last =
    subst (IsNoneOf q) (sym (ap folders_among is ∙ folders_append front more)) (none_both q (folders_among front) (folders_among more) none last)

-- all are folders, and so are those of both lists
pub folders_parts : (front more : List Location) → IsTrue (are_folders (front ++ more)) → IsTrue (are_folders front) × IsTrue (are_folders more)
folders_parts [] more t = (refl, t)
folders_parts (locations.Folder name ∷ front) more t = folders_parts front more t
folders_parts (locations.Http host port prefix ∷ front) more t = absurd (cc)
