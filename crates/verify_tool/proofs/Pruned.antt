-- Files that go from a folder store.
use Rattle.std.proofs.Common.{◌≡◌, ℕ, ◌+◌, ◌<◌, List, [], ◌∷◌, ◌++◌, length, take, get_or, map, Bool, true, false, not, cond, ◌||◌, ◌&&◌, Option, Some, None, IfSome, is_some, is_none, inl, inr, drop, refl, sym, ap, subst, ◌∙◌, arith}
use Rattle.std.proofs.lemmas.Map.Text.{is_eq-slice_cmp}
use Rattle.std.proofs.lemmas.List.{get_or_read, take-append-drop}
use Rattle.std.proofs.lemmas.List.Elements.{All-from_recursion}
use Rattle.std.specs.Cmp.Lexicographic.{slice_cmp}
use Rattle.std.specs.List.{filter, All, AllByRecursion, list_any}
use Rattle.std.specs.Option.{option_map}
use Rattle.std.specs.Ordering.{nat_cmp, is_eq}
use Rattle.std.specs.Set.{is_member}
use Rattle.std.specs.Str.{bytes_eq}
use Rattle.chunk_store.specs.declared.id.ChunkId.{ChunkId}
use Rattle.dir_store.specs.Lists.{IsNamesWhere}
use Rattle.dir_store.specs.Names.{id_at_path, is_stranger, is_temporary}
use Rattle.dsy_base.specs.Maps.{Map, at_name, is_listed}
use Rattle.verify_tool.proofs.Distinct.{front_is, member_append, same_either_way}
use Rattle.verify_tool.specs.Pruning.{CountsVictims, KeepsRest, RemovesFront, StopsPruning, is_unkept, is_victim, pruned, without}

-- ---- files without some

pub without_none : (o : Option (Map (List ℕ))) → option_map (without []) o ≡ o
without_none None = refl
without_none (Some m) = refl

both_gone : (a b : Bool) (w : Option (List ℕ)) → cond (a || b) None w ≡ cond b None (cond a None w)
both_gone true true w = refl
both_gone true false w = refl
both_gone false b w = refl

pub without_append : (xs ys : List (List ℕ)) (o : Option (Map (List ℕ))) → option_map (without (xs ++ ys)) o ≡ option_map (without ys) (option_map (without xs) o)
without_append xs ys None = refl
without_append xs ys (Some m) = ap Some (λ i q. (ap (λ b. cond b None (m q)) (member_append xs ys q) ∙ both_gone (is_member bytes_eq xs q) (is_member bytes_eq ys q) (m q)) i)

one_gone : (x q : List ℕ) (w : Option (List ℕ)) → cond (is_member bytes_eq (x ∷ []) q) None w ≡ cond (bytes_eq x q) None w
one_gone x q w = ap (λ b. cond b None w) (plain (bytes_eq q x) ∙ same_either_way q x) where
  plain : (b : Bool) → (b || false) ≡ b
  plain true = refl
  plain false = refl

pub without_one : (x : List ℕ) (o : Option (Map (List ℕ))) → option_map (without (x ∷ [])) o ≡ option_map (λ m. at_name m x None) o
without_one x None = refl
without_one x (Some m) = ap Some (λ i q. (one_gone x q (m q)) i)

-- one more is removed
pub removed_more : (names : List (List ℕ)) (i : ℕ) (x : List ℕ) (o now new : Option (Map (List ℕ))) → i < length names → x ≡ get_or names i x
    → now ≡ option_map (without (take i names)) o → new ≡ option_map (λ m. at_name m x None) now → new ≡ option_map (without (take (i + 1) names)) o
removed_more names i x o now new lt at so_far gone =
    gone ∙ ap (option_map (λ m. at_name m x None)) so_far ∙ sym (without_one x (option_map (without (take i names)) o))
    ∙ sym (without_append (take i names) (x ∷ []) o)
    ∙ ap (λ ns. option_map (without ns) o) (ap (λ y. take i names ++ y ∷ []) (get_or_read names i x lt at []) ∙ sym (front_is names i lt))

-- what a front of the names leaves after a refusal at name i
pub stopped_at : (names : List (List ℕ)) (i : ℕ) (o now new : Option (Map (List ℕ))) → i < length names → now ≡ option_map (without (take i names)) o → new ≡ now → RemovesFront names o new
stopped_at names i o now new lt so_far same = (i, omega (arith, lt), same ∙ so_far)

-- ---- which files go

named : (t : Bool) (keep : List ℕ → Bool) (o : Option (List ℕ)) → (t || is_unkept keep o) ≡ true → (not t && is_none o) ≡ false
named true keep o h = refl
named false keep (Some id) h = refl
named false keep None h = absurd (cc)

named_first : (keep : List ℕ → Bool) (n : List ℕ) (ns : List (List ℕ)) (b : Bool) → b ≡ is_victim keep n → AllByRecursion (λ q. is_stranger q ≡ false) ns → AllByRecursion (λ q. is_stranger q ≡ false) (cond b (n ∷ ns) ns)
named_first keep n ns true e rest = (named (is_temporary n) keep (id_at_path n) (sym e), rest)
named_first keep n ns false e rest = rest

victims_named : (keep : List ℕ → Bool) (ns : List (List ℕ)) → AllByRecursion (λ q. is_stranger q ≡ false) (filter (is_victim keep) ns)
victims_named keep [] = tt
victims_named keep (n ∷ ns) = named_first keep n (filter (is_victim keep) ns) (is_victim keep n) refl (victims_named keep ns)

pub all_named : (keep : List ℕ → Bool) (ns vs : List (List ℕ)) → vs ≡ filter (is_victim keep) ns → All (λ q. is_stranger q ≡ false) vs
all_named keep ns vs is = subst (λ (xs : List (List ℕ)). All (λ q. is_stranger q ≡ false) xs) (sym is) (All-from_recursion _ _ (victims_named keep ns))

three : (v l : Bool) (w : Option (List ℕ)) → cond (v && (l && is_some w)) None w ≡ cond (v && l) None w
three true true (Some x) = refl
three true true None = refl
three true false w = refl
three false l w = refl

pub pruned_all : (keep : List ℕ → Bool) (vs : List (List ℕ)) (o : Option (Map (List ℕ))) → IfSome o (λ m. IsNamesWhere (is_victim keep) m vs) → option_map (without vs) o ≡ option_map (pruned keep) o
pruned_all keep vs None h = refl
pruned_all keep vs (Some m) h = ap Some (λ i q. (ap (λ b. cond b None (m q)) (h.all q) ∙ three (is_victim keep q) (is_listed q) (m q)) i)

pub counted_all : (keep : List ℕ → Bool) (vs : List (List ℕ)) (n : ℕ) (o : Option (Map (List ℕ))) → n ≡ length vs → IfSome o (λ m. IsNamesWhere (is_victim keep) m vs) → IfSome o (CountsVictims keep n)
counted_all keep vs n None e h = tt
counted_all keep vs n (Some m) e h = (vs, h, e)

-- ---- what stays

pub rest_same : (keep : List ℕ → Bool) (o : Option (Map (List ℕ))) → KeepsRest keep o o
rest_same keep None = tt
rest_same keep (Some m) = λ q stays. refl

pub rest_pruned : (keep : List ℕ → Bool) (o : Option (Map (List ℕ))) → KeepsRest keep o (option_map (pruned keep) o)
rest_pruned keep None = tt
rest_pruned keep (Some m) = λ q stays. ap (λ b. cond (b && is_listed q) None (m q)) stays

first_of : (a b : Bool) → (a || b) ≡ false → a ≡ false
first_of false b h = refl
first_of true b h = absurd (cc)

pub rest_front : (keep : List ℕ → Bool) (vs : List (List ℕ)) (k : ℕ) (o : Option (Map (List ℕ))) → IfSome o (λ m. IsNamesWhere (is_victim keep) m vs) → KeepsRest keep o (option_map (without (take k vs)) o)
rest_front keep vs k None h = tt
rest_front keep vs k (Some m) h = λ q stays.
    let whole : is_member bytes_eq vs q ≡ false = h.all q ∙ ap (λ b. b && (is_listed q && is_some (m q))) stays in
    let parts = sym (member_append (take k vs) (drop k vs) q) ∙ ap (λ xs. is_member bytes_eq xs q) (take-append-drop k vs) ∙ whole in
    ap (λ b. cond b None (m q)) (first_of _ _ parts)

pub rest_stopped : (keep : List ℕ → Bool) (o new : Option (Map (List ℕ))) → StopsPruning keep o new → KeepsRest keep o new
rest_stopped keep o new (inl same) = subst (λ (x : Option (Map (List ℕ))). KeepsRest keep o x) (sym same) (rest_same keep o)
rest_stopped keep o new (inr (vs, are, (k, le, is))) = subst (λ (x : Option (Map (List ℕ))). KeepsRest keep o x) (sym is) (rest_front keep vs k o are)

-- ---- a set of ids

pub member_of : (keys : List ChunkId) (id : List ℕ) → list_any (λ k. is_eq (slice_cmp nat_cmp id k.0)) keys ≡ is_member bytes_eq (map (λ k. k.0) keys) id
member_of [] id = refl
member_of (k ∷ keys) id = (λ i. is_eq-slice_cmp id k.0 i || member_of keys id i)
