-- Stores that are asked for one id after another.
use Rattle.std.proofs.Common.{◌≡◌, ◌≢◌, ℕ, zero, suc, cond, length-append, ◌+◌, ◌<◌, ◌≤◌, List, [], ◌∷◌, ◌++◌, ◌-◌, length, map, take, drop, get_or, Bool, true, false, not, ◌||◌, Option, refl, sym, subst, ap, ◌∙◌, arith}
use Rattle.std.specs.List.{All, AllZip}
use Rattle.std.specs.Set.{is_member}
use Rattle.std.specs.Str.{bytes_eq}
use Rattle.std.proofs.Math.Seq.{take-add}
use Rattle.std.proofs.lemmas.List.Elements.{AllZip-get_or}
use Rattle.std.proofs.lemmas.Slice.Eq.{bytes_eq-Decides}
use Rattle.std.proofs.lemmas.Slice.Zip.{AllZip-long}
use Rattle.chunk_store.specs.Said.{Said, KeepsOf, AskedOnce}
use Rattle.dsy_base.specs.Maps.{Map}
use Rattle.caibx_codec.specs.Listing.{Listing}
use Rattle.store_chain.proofs.Pairs.{all_zip_same}
use Rattle.store_chain.specs.Chains.{EachOnce}
use Rattle.store_chain.specs.Faults.{NoneFalls}
use Rattle.verify_tool.proofs.Counted.{turn_is}
use Rattle.verify_tool.proofs.Distinct.{member_append, member_push}
use Rattle.verify_tool.specs.Counts.{is_listed_before, AsksBefore, DeniesOthers, EachAsksBefore, TellsHeld, Reaches}
use Rattle.verify_tool.specs.Texts.{ids_of}

or_true : (a b : Bool) → (a || b) ≡ true → a ≡ false → b ≡ true
or_true true b h f = absurd (cc)
or_true false b h f = h

or_false_left : (a b : Bool) → (a || b) ≡ false → a ≡ false
or_false_left true b h = absurd (cc)
or_false_left false b h = refl

or_false_right : (a b : Bool) → (a || b) ≡ false → b ≡ false
or_false_right true b h = absurd (cc)
or_false_right false b h = h

apart : (q id : List ℕ) → bytes_eq q id ≡ false → q ≢ id
apart q id h e = let same : bytes_eq q id ≡ true = (bytes_eq-Decides q id).1 e in absurd (cc)

-- three lists of stores
pub each_then : {A : Type 0} (P Q R : A → A → Type 0) → ((a b c : A) → P a b → Q b c → R a c) → (xs ys zs : List A) → AllZip P xs ys → AllZip Q ys zs → AllZip R xs zs
each_then P Q R go [] [] [] first then = tt
each_then P Q R go [] [] (z ∷ zs) first then = absurd then
each_then P Q R go [] (y ∷ ys) zs first then = absurd first
each_then P Q R go (x ∷ xs) [] zs first then = absurd first
each_then P Q R go (x ∷ xs) (y ∷ ys) [] first then = absurd then
each_then P Q R go (x ∷ xs) (y ∷ ys) (z ∷ zs) first then = (go x y z first.0 then.0, each_then P Q R go xs ys zs first.1 then.1)

pub each_weaker : {A : Type 0} (P R : A → A → Type 0) → ((a b : A) → P a b → R a b) → (xs ys : List A) → AllZip P xs ys → AllZip R xs ys
each_weaker P R go [] [] all = tt
each_weaker P R go [] (y ∷ ys) all = absurd all
each_weaker P R go (x ∷ xs) [] all = absurd all
each_weaker P R go (x ∷ xs) (y ∷ ys) all = (go x y all.0, each_weaker P R go xs ys all.1)

-- the ids before entry n are among those before a later one
pub asks_later : {S : Type 0} (queried : S → List ℕ → ℕ) (l : Listing) (n m : ℕ) → n ≤ m → (old new : List S) → EachAsksBefore queried l n old new → EachAsksBefore queried l m old new
asks_later queried l n m le old new before =
    let cut : take m (ids_of l) ≡ take n (ids_of l) ++ take (m - n) (drop n (ids_of l)) = (let k : n + (m - n) ≡ m = omega arith in ap (λ k. take k (ids_of l)) (sym k)) ∙ take-add n (m - n) (ids_of l) in
    let fewer : (q : List ℕ) → is_listed_before l m q ≡ false → is_listed_before l n q ≡ false = λ q h. or_false_left _ _ (sym (member_append (take n (ids_of l)) (take (m - n) (drop n (ids_of l))) q) ∙ sym (ap (λ ids. is_member bytes_eq ids q) cut) ∙ h) in
    each_weaker (λ a b. AsksBefore l n (queried a) (queried b)) (λ a b. AsksBefore l m (queried a) (queried b)) (λ a b h. record { once = h.once; no_less = h.no_less; others = λ q g. h.others q (fewer q g) }) old new before

-- the id of entry i, which is listed
module _ (l : Listing) (i : ℕ) (id : List ℕ) (inside : i < length (ids_of l)) (named : id ≡ get_or (ids_of l) i []) where
  listed_more : (q : List ℕ) → is_listed_before l (i + 1) q ≡ (is_listed_before l i q || bytes_eq q id)
  listed_more q = ap (λ ids. is_member bytes_eq ids q) (sym (turn_is (ids_of l) i id inside named)) ∙ member_push (take i (ids_of l)) id q

  not_before : (q : List ℕ) → is_listed_before l (i + 1) q ≡ false → is_listed_before l i q ≡ false
  not_before q h = or_false_left (is_listed_before l i q) (bytes_eq q id) (sym (listed_more q) ∙ h)

  -- this one was, which is new
  module _ (is_new : is_listed_before l i id ≡ false) where
    once_by : (old mid new : List ℕ → ℕ) → AsksBefore l i old mid → AskedOnce mid new id → (q : List ℕ) (b e : Bool) → is_listed_before l i q ≡ b → bytes_eq q id ≡ e → new q ≤ old q + 1
    once_by old mid new before one q true e h same =
        let other : new q ≡ mid q = one.others q (λ is. (let both : true ≡ false = sym h ∙ ap (is_listed_before l i) is ∙ is_new in absurd (cc))) in
        omega (arith, other, before.once q)
    once_by old mid new before one q false true h same =
        let is : q ≡ id = (bytes_eq-Decides q id).0 same in
        let P : List ℕ → Type 0 = λ x. new x ≤ mid x + 1 in
        omega (arith, subst P (sym is) one.this, before.others q h)
    once_by old mid new before one q false false h same = omega (arith, one.others q (apart q id same), before.others q h)

    less_by : (mid new : List ℕ → ℕ) → AskedOnce mid new id → (q : List ℕ) (e : Bool) → bytes_eq q id ≡ e → mid q ≤ new q
    less_by mid new one q true same =
        let is : q ≡ id = (bytes_eq-Decides q id).0 same in
        let P : List ℕ → Type 0 = λ x. mid x ≤ new x in
        subst P (sym is) one.no_less
    less_by mid new one q false same = omega (arith, one.others q (apart q id same))

    one_more : (old mid new : List ℕ → ℕ) → AsksBefore l i old mid → AskedOnce mid new id → AsksBefore l (i + 1) old new
    one_more old mid new before one = record {
      once = λ q. once_by old mid new before one q (is_listed_before l i q) (bytes_eq q id) refl refl;
      no_less = λ q. omega (arith, before.no_less q, less_by mid new one q (bytes_eq q id) refl);
      others = λ q h.
          let other : bytes_eq q id ≡ false = or_false_right (is_listed_before l i q) (bytes_eq q id) (sym (listed_more q) ∙ h) in
          one.others q (apart q id other) ∙ before.others q (not_before q h);
    }

    pub each_one_more : {S : Type 0} (queried : S → List ℕ → ℕ) (old mid new : List S) → EachAsksBefore queried l i old mid → EachOnce queried id mid new → EachAsksBefore queried l (i + 1) old new
    each_one_more queried old mid new before one =
        each_then (λ a b. AsksBefore l i (queried a) (queried b)) (λ a b. AskedOnce (queried a) (queried b) id) (λ a b. AsksBefore l (i + 1) (queried a) (queried b)) (λ a b c h g. one_more (queried a) (queried b) (queried c) h g) old mid new before one

-- an id that is new to the set is that of no entry before
pub is_first : (l : Listing) (i : ℕ) (id : List ℕ) (held is_new : Bool) → held ≡ is_listed_before l i id → is_new ≡ not held → is_new ≡ true → is_listed_before l i id ≡ false
is_first l i id held is_new member fresh h = sym member ∙ not_held held (sym fresh ∙ h)
  where
    not_held : (b : Bool) → not b ≡ true → b ≡ false
    not_held true h = absurd (cc)
    not_held false h = refl

-- and one that isn't new is that of one
pub is_known : (l : Listing) (i : ℕ) (id : List ℕ) (held is_new : Bool) → held ≡ is_listed_before l i id → is_new ≡ not held → is_new ≡ false → is_listed_before l i id ≡ true
is_known l i id held is_new member fresh h = sym member ∙ is_held held (sym fresh ∙ h)
  where
    is_held : (b : Bool) → not b ≡ false → b ≡ true
    is_held true h = refl
    is_held false h = absurd (cc)

-- what was denied is denied still
denied_still : {S : Type 0} (said : S → Said) (q : List ℕ) (xs ys : List S) → AllZip (λ a b. (q : List ℕ) → KeepsOf (said a) (said b) q) xs ys → All (λ s. (said s).denied q) xs → All (λ s. (said s).denied q) ys
denied_still said q xs ys keeps all i d lt =
    let long = AllZip-long (λ a b. (q : List ℕ) → KeepsOf (said a) (said b) q) xs ys keeps in
    let here : i < length xs = omega (arith, long) in
    (AllZip-get_or (λ a b. (q : List ℕ) → KeepsOf (said a) (said b) q) xs ys i d d keeps here q).denied (all i d here)

module _ {S : Type 0} (holds : S → Option (Map (List ℕ))) (said : S → Said) (queried : S → List ℕ → ℕ) (faults : S → ℕ) (l : Listing) where
  -- no store was asked yet
  none_asked : (old : List S) → EachAsksBefore queried l 0 old old
  none_asked old = all_zip_same (λ a b. AsksBefore l 0 (queried a) (queried b)) (λ s. record { once = λ q. omega arith; no_less = λ q. omega arith; others = λ q h. refl }) old

  pub reaches_first : (old : List S) → Reaches holds said queried faults l 0 old old
  reaches_first old = record { answered = λ q h. absurd (cc); asked = none_asked old; none_fell = λ k. omega arith }

  still : (q : List ℕ) (old mid new : List S) → AllZip (λ a b. (q : List ℕ) → KeepsOf (said a) (said b) q) mid new → TellsHeld holds said q old mid → TellsHeld holds said q old new
  still q old mid new keeps a = record { held = a.held; told = a.told; denied = λ h. denied_still said q mid new keeps (a.denied h) }

  from_before : (q : List ℕ) (old mid new : List S) → map holds mid ≡ map holds old → TellsHeld holds said q mid new → TellsHeld holds said q old new
  from_before q old mid new same a = record { held = a.held; told = λ maps h. a.told maps (same ∙ h); denied = a.denied }

  -- after one turn, in which the id of entry i was asked for where it was new
  module _ (old mid new : List S) (i : ℕ) (id : List ℕ) (inside : i < length (ids_of l)) (named : id ≡ get_or (ids_of l) i []) (before : Reaches holds said queried faults l i old mid)
      (held is_new : Bool) (member : held ≡ is_listed_before l i id) (fresh : is_new ≡ not held) (same : map holds mid ≡ map holds old)
      (keeps : AllZip (λ a b. (q : List ℕ) → KeepsOf (said a) (said b) q) mid new) where
    answered_by : (answer : is_new ≡ true → TellsHeld holds said id mid new) (q : List ℕ) (b e : Bool) → is_listed_before l i q ≡ b → bytes_eq q id ≡ e → is_listed_before l (i + 1) q ≡ true → TellsHeld holds said q old new
    answered_by answer q true e h is more = still q old mid new keeps (before.answered q h)
    answered_by answer q false false h is more = let no : true ≡ false = sym more ∙ listed_more l i id inside named q ∙ ap (λ b. b || bytes_eq q id) h ∙ is in absurd (cc)
    answered_by answer q false true h is more =
        let one : q ≡ id = (bytes_eq-Decides q id).0 is in
        let new_id : (b : Bool) → is_new ≡ b → is_new ≡ true = λ b. elim b as (λ b. is_new ≡ b → is_new ≡ true) [
          | true ↦ λ e. e
          | false ↦ λ e. (let no : true ≡ false = sym (is_known l i id held is_new member fresh e) ∙ sym (ap (is_listed_before l i) one) ∙ h in absurd (cc))
        ] in
        let P : List ℕ → Type 0 = λ x. TellsHeld holds said x old new in
        subst P (sym one) (from_before id old mid new same (answer (new_id is_new refl)))

    asked_by : (b : Bool) → is_new ≡ b → (is_new ≡ false → new ≡ mid) → EachOnce queried id mid new → EachAsksBefore queried l (i + 1) old new
    asked_by true is none one = each_one_more l i id inside named (is_first l i id held is_new member fresh is) queried old mid new before.asked one
    asked_by false is none one =
        let P : List S → Type 0 = λ ss. EachAsksBefore queried l (i + 1) old ss in
        subst P (sym (none is)) (asks_later queried l i (i + 1) (omega arith) old mid before.asked)

    pub reaches_next : (is_new ≡ true → TellsHeld holds said id mid new) → (is_new ≡ false → new ≡ mid) → EachOnce queried id mid new → NoneFalls (map faults mid) (map faults new) → Reaches holds said queried faults l (i + 1) old new
    reaches_next answer none one falls = record {
      answered = λ q h. answered_by answer q (is_listed_before l i q) (bytes_eq q id) refl refl h;
      asked = asked_by is_new refl none one;
      none_fell = λ k. omega (arith, before.none_fell k, falls k);
    }

-- ---- the ids that were denied

-- n ids, and each store has denied every other one that is listed before entry i: the same after one turn more
module _ {S : Type 0} (said : S → Said) (l : Listing) where
  pub denies_first : (old : List S) → DeniesOthers said l 0 0 old
  denies_first old = record { held = []; many = refl; denied = λ q h other. absurd (cc) }

  module _ (mid new : List S) (keeps : AllZip (λ a b. (q : List ℕ) → KeepsOf (said a) (said b) q) mid new) (i : ℕ) (id : List ℕ) (inside : i < length (ids_of l)) (named : id ≡ get_or (ids_of l) i []) where
    abbrev pub IsDenied : List ℕ → Type 0
    IsDenied q = All (λ s. (said s).denied q) new

    -- an id before is as it was, and this one is denied or was known
    module _ (n : ℕ) (before : DeniesOthers said l i n mid) where
      denied_by : (is_listed_before l i id ≡ true → is_member bytes_eq before.held id ≡ false → IsDenied id) → (is_listed_before l i id ≡ false → IsDenied id) → (q : List ℕ) (b e : Bool) → is_listed_before l i q ≡ b → bytes_eq q id ≡ e → is_listed_before l (i + 1) q ≡ true
          → is_member bytes_eq before.held q ≡ false → IsDenied q
      denied_by known fresh q true e h is more other = denied_still said q mid new keeps (before.denied q h other)
      denied_by known fresh q false false h is more other = let no : true ≡ false = sym more ∙ listed_more l i id inside named q ∙ ap (λ b. b || bytes_eq q id) h ∙ is in absurd (cc)
      denied_by known fresh q false true h is more other =
          let one : q ≡ id = (bytes_eq-Decides q id).0 is in
          subst IsDenied (sym one) (fresh (sym (ap (is_listed_before l i) one) ∙ h))

      same : is_listed_before l i id ≡ true → DeniesOthers said l (i + 1) n new
      same is = record {
        held = before.held;
        many = before.many;
        denied = λ q more other. denied_by (λ k o. denied_still said id mid new keeps (before.denied id k o)) (λ k. (let no : true ≡ false = sym is ∙ k in absurd (cc))) q (is_listed_before l i q) (bytes_eq q id) refl refl more other;
      }

      none : IsDenied id → DeniesOthers said l (i + 1) n new
      none all = record {
        held = before.held;
        many = before.many;
        denied = λ q more other. denied_by (λ k o. all) (λ k. all) q (is_listed_before l i q) (bytes_eq q id) refl refl more other;
      }

      one_held : DeniesOthers said l (i + 1) (n + 1) new
      one_held = record {
        held = before.held ++ id ∷ [];
        many = omega (arith, length-append before.held (id ∷ []), before.many);
        denied = λ q more other.
            let both = sym (member_push before.held id q) ∙ other in
            let apart_from : bytes_eq q id ≡ false = or_false_right (is_member bytes_eq before.held q) (bytes_eq q id) both in
            let left : is_listed_before l i q ≡ true = or_true (bytes_eq q id) (is_listed_before l i q) (swapped (is_listed_before l i q) (bytes_eq q id) (sym (listed_more l i id inside named q) ∙ more)) apart_from in
            denied_still said q mid new keeps (before.denied q left (or_false_left (is_member bytes_eq before.held q) (bytes_eq q id) both));
      } where
        swapped : (a b : Bool) → (a || b) ≡ true → (b || a) ≡ true
        swapped true true h = refl
        swapped true false h = refl
        swapped false b h = absurd_or b h where
          absurd_or : (b : Bool) → b ≡ true → (b || false) ≡ true
          absurd_or true h = refl
          absurd_or false h = absurd (cc)

      pub denies_next : (is_new : Bool) (more : ℕ) → (is_new ≡ false → is_listed_before l i id ≡ true) → more ≤ cond is_new 1 0 → (more ≡ 0 → is_new ≡ true → IsDenied id) → DeniesOthers said l (i + 1) (n + more) new
      denies_next false more known few denied =
          let none : n + more ≡ n = omega (arith, few) in
          subst (λ k. DeniesOthers said l (i + 1) k new) (sym none) (same (known refl))
      denies_next true zero known few denied =
          let as_before : n + 0 ≡ n = omega arith in
          subst (λ k. DeniesOthers said l (i + 1) k new) (sym as_before) (none (denied refl refl))
      denies_next true (suc m) known few denied =
          let once : n + suc m ≡ n + 1 = omega (arith, few) in
          subst (λ k. DeniesOthers said l (i + 1) k new) (sym once) one_held
