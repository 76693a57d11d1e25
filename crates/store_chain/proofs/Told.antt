-- What stores that tell what they hold have told by what they said.
use Rattle.std.proofs.Common.{◌≡◌, ◌≢◌, ℕ, zero, suc, List, [], ◌∷◌, length, map, take, Option, Some, None, Bool, IsTrue, Ok, Err, Result, IfSome, IsSomeAnd, IfOk, IfErr, sym, subst, ap, ◌∙◌, inl, inr, arith, ◌⊎◌}
use Rattle.std.specs.List.{All, zip}
use Rattle.std.proofs.lemmas.List.Elements.{All-nil, All-cons, All-head, All-tail}
use Rattle.chunk_store.specs.Said.{Said, SaysMap}
use Rattle.chunk_store.specs.declared.shows.Shows.{Shows}
use Rattle.chunk_store.specs.declared.shows.Shows.TheVariants as shows
use Rattle.dsy_base.specs.Counts.{Quiet, Rose}
use Rattle.dsy_base.specs.Maps.{Map}
use Rattle.store_chain.specs.Faults.{EachQuiet}
use Rattle.store_chain.specs.Giving.{HoldsNone, Gives, HoldsElse, LacksAll, GivesFirst, Obtains}
use Rattle.store_chain.specs.Lists.{FirstAt}
use Rattle.store_chain.specs.Refusals.{HasShown, HasShownBy, Lacks, Denied, Showed, Lacked, Failed, LackedOrFailed, PassedOver, GivenBy, Refuses, RefusesFrom}
use Rattle.store_chain.specs.Queries.{IsWanted, ShowsElse}
use Rattle.store_chain.specs.declared.refused.Refused.{Refused}
use Rattle.store_chain.specs.declared.refused.Refused.TheVariants as refused
use Rattle.store_chain.specs.declared.query.Query.{Query}
use Rattle.store_chain.proofs.Pairs.{cons_head, cons_tail, cons_nil, rose_at}

pub some_injective : {X : Type 0} (a b : X) → Some a ≡ Some b → a ≡ b
some_injective a b e = cc

sized_not : (size : Option ℕ) (k n : ℕ) → n ≡ k → IfSome size (λ s. k ≡ s) → IsSomeAnd size (λ s. n ≢ s) → ⊥
sized_not None k n same is not = not
sized_not (Some s) k n same is not = not (same ∙ is)

-- bytes that are what is wanted show nothing else
pub not_both : (w : Query) (a b : List ℕ) (x : Shows) → a ≡ b → IsWanted w a → ShowsElse w b x → ⊥
not_both w a b shows.Longer same wanted else = let e = ap length same in absurd (omega (arith, wanted.fits, else, e))
not_both w a b (shows.Digest x) same wanted else = let n = wanted.named in let e = else.1 in else.2 cc
not_both w a b (shows.Length n) same wanted else = sized_not w.size (length a) n (let e = ap length same in let l = else.2 in cc) wanted.sized else.3

module _ (w : Query) (said : Said) (m : Map (List ℕ)) (says : SaysMap said m) where
  held_none : said.denied w.id.0 → HoldsNone w m
  held_none denied = (says.denied w.id.0).0 denied

  held_else : (x : Shows) → HasShown w x said → HoldsElse w x m
  held_else shows.Longer h = (says.longer w.id.0 w.lent).0 h
  held_else (shows.Digest x) h = (h.0, (says.shown w.id.0 h.0).0 h.1, h.2)
  held_else (shows.Length n) h = (h.0, (says.shown w.id.0 h.0).0 h.1, h.2)

  -- a store that tells has the number 0
  first_alone : (k : ℕ) (x : Shows) → HasShownBy k w x said → k ≡ 0
  first_alone k shows.Longer h = says.longer_by k w.id.0 w.lent h
  first_alone k (shows.Digest x) h = says.shown_by k w.id.0 h.0 h.1
  first_alone k (shows.Length n) h = says.shown_by k w.id.0 h.0 h.1

  gives_not : (x : Shows) → HoldsElse w x m → Gives w m → ⊥
  gives_not x else gives = not_both w gives.0 else.0 x (some_injective gives.0 else.0 (sym gives.1 ∙ else.1)) gives.2 else.2

  lacked_not : Lacks w said → Gives w m → ⊥
  lacked_not (inl denied) gives = let n = held_none denied in let g = gives.1 in cc
  lacked_not (inr h) gives = gives_not h.0 (held_else h.0 h.1) gives

rose_not : (a b : ℕ) → Quiet a b → Rose a b → ⊥
rose_not a b quiet (inl up) = omega (arith, quiet.same, up)
rose_not a b quiet (inr top) = omega (arith, quiet.below, top)

-- what the pairs of stores have said, as what the maps hold that the stores tell
module _ {S : Type 0} (holds : S → Option (Map (List ℕ))) where
  all_told : (P : S × S → Type 0) (Q : Map (List ℕ) → Type 0) → ((p : S × S) (m : Map (List ℕ)) → holds p.1 ≡ Some m → P p → Q m)
      → (old new : List S) (maps : List (Map (List ℕ))) → map holds new ≡ map holds old → map holds new ≡ map Some maps → All P (zip old new) → All Q maps
  all_told P Q f [] [] [] kept told h = All-nil Q
  all_told P Q f [] [] (m ∷ ms) kept told h = absurd (cons_nil (Some m) (map Some ms) (sym told))
  all_told P Q f [] (y ∷ ys) maps kept told h = absurd (cons_nil (holds y) (map holds ys) kept)
  all_told P Q f (x ∷ xs) [] maps kept told h = absurd (cons_nil (holds x) (map holds xs) (sym kept))
  all_told P Q f (x ∷ xs) (y ∷ ys) [] kept told h = absurd (cons_nil (holds y) (map holds ys) told)
  all_told P Q f (x ∷ xs) (y ∷ ys) (m ∷ ms) kept told h =
      All-cons Q m ms (f (x, y) m (cons_head _ _ _ _ told) (All-head P (x, y) (zip xs ys) h))
      (all_told P Q f xs ys ms (cons_tail _ _ _ _ kept) (cons_tail _ _ _ _ told) (All-tail P (x, y) (zip xs ys) h))

  first_told : (B A C : S × S → Type 0) (D E F : Map (List ℕ) → Type 0) → ((p : S × S) (m : Map (List ℕ)) → holds p.1 ≡ Some m → B p → D m)
      → ((p : S × S) (m : Map (List ℕ)) → holds p.1 ≡ Some m → A p → E m) → ((p : S × S) (m : Map (List ℕ)) → holds p.1 ≡ Some m → C p → F m)
      → (n : ℕ) (old new : List S) (maps : List (Map (List ℕ))) → map holds new ≡ map holds old → map holds new ≡ map Some maps → FirstAt B A C n (zip old new) → FirstAt D E F n maps
  first_told B A C D E F b a c n [] new maps kept told h = absurd h
  first_told B A C D E F b a c n (x ∷ xs) [] maps kept told h = absurd h
  first_told B A C D E F b a c n (x ∷ xs) (y ∷ ys) [] kept told h = absurd (cons_nil (holds y) (map holds ys) told)
  first_told B A C D E F b a c zero (x ∷ xs) (y ∷ ys) (m ∷ ms) kept told h =
      (a (x, y) m (cons_head _ _ _ _ told) h.0, all_told C F c xs ys ms (cons_tail _ _ _ _ kept) (cons_tail _ _ _ _ told) h.1)
  first_told B A C D E F b a c (suc n) (x ∷ xs) (y ∷ ys) (m ∷ ms) kept told h =
      (b (x, y) m (cons_head _ _ _ _ told) h.0, first_told B A C D E F b a c n xs ys ms (cons_tail _ _ _ _ kept) (cons_tail _ _ _ _ told) h.1)

-- what follows from the element of the number
at_first : {X Q : Type 0} (D E F : X → Type 0) → ((x : X) → E x → Q) → (n : ℕ) (xs : List X) → FirstAt D E F n xs → Q
at_first D E F f n [] h = absurd h
at_first D E F f zero (x ∷ xs) h = f x h.0
at_first D E F f (suc n) (x ∷ xs) h = at_first D E F f n xs h.1

module _ {S : Type 0} (said : S → Said) (faults : S → ℕ) (lacks_memory : Bool) (w : Query) where
  -- without a fault in the call, a store was passed for what it lacks, or for want of memory
  Skipped : S × S → Type 0
  Skipped p = Lacked said faults lacks_memory w p ⊎ IsTrue lacks_memory

  skipped : (x y : S) → Quiet (faults x) (faults y) → PassedOver said faults lacks_memory w (x, y) → Skipped (x, y)
  unfolding Skipped
  skipped x y quiet (inl lacked) = inl lacked
  skipped x y quiet (inr (inl failed)) = absurd (rose_not _ _ quiet failed)
  skipped x y quiet (inr (inr memory)) = inr memory.0

  passed_quiet : (A C : S × S → Type 0) (n : ℕ) (old new : List S) → EachQuiet (map faults old) (map faults new)
      → FirstAt (PassedOver said faults lacks_memory w) A C n (zip old new) → FirstAt Skipped A C n (zip old new)
  passed_quiet A C n [] new quiet h = absurd h
  passed_quiet A C n (x ∷ xs) [] quiet h = absurd h
  passed_quiet A C zero (x ∷ xs) (y ∷ ys) quiet h = h
  passed_quiet A C (suc n) (x ∷ xs) (y ∷ ys) quiet h = (skipped x y (quiet 0) h.0, passed_quiet A C n xs ys (λ k. quiet (suc k)) h.1)

  -- where the numbers begin at 0
  pub refuses : (old new : List S) (r : Refused) → RefusesFrom said faults lacks_memory w 0 old new r → Refuses said faults lacks_memory w old new r
  refuses old new refused.Missing h = h
  refuses old new (refused.Damaged s x) h =
      let P : ℕ → Type 0 = λ k. FirstAt (Denied said faults lacks_memory w) (Showed said faults lacks_memory w s x) (Lacked said faults lacks_memory w) k (zip old new) in
      let e : h.0 ≡ s.number = omega (arith, h.1) in
      subst P e h.2
  refuses old new (refused.StoreFault s) h =
      let P : ℕ → Type 0 = λ k. FirstAt (Lacked said faults lacks_memory w) (Failed faults) (LackedOrFailed said faults lacks_memory w) k (zip old new) in
      let e : h.0 ≡ s = omega (arith, h.1) in
      subst P e h.2
  refuses old new refused.Memory h = h.1

  module _ (holds : S → Option (Map (List ℕ))) (says : (s : S) → IfSome (holds s) (SaysMap (said s))) (old new : List S) (maps : List (Map (List ℕ)))
      (kept : map holds new ≡ map holds old) (told : map holds new ≡ map Some maps) where
    says_at : (s : S) (m : Map (List ℕ)) → holds s ≡ Some m → SaysMap (said s) m
    says_at s m is = subst (λ (o : Option (Map (List ℕ))). IfSome o (SaysMap (said s))) is (says s)

    pub lacks_all : (r : Refused) → Refuses said faults lacks_memory w old new r → LacksAll w maps r
    lacks_all refused.Missing h =
        all_told holds (Denied said faults lacks_memory w) (HoldsNone w) (λ p m is denied. held_none w (said p.1) m (says_at p.1 m is) denied) old new maps kept told h
    lacks_all (refused.Damaged s x) h = (
      at_first (λ m. Unit {0}) (λ m. s.member ≡ 0) (λ m. Unit {0}) (λ m is. is) s.number maps
          (first_told holds (Denied said faults lacks_memory w) (Showed said faults lacks_memory w s x) (Lacked said faults lacks_memory w) (λ m. Unit {0}) (λ m. s.member ≡ 0) (λ m. Unit {0})
          (λ p m is denied. tt) (λ p m is showed. first_alone w (said p.1) m (says_at p.1 m is) s.member x showed.1) (λ p m is lacked. tt) s.number old new maps kept told h),
      first_told holds (Denied said faults lacks_memory w) (Showed said faults lacks_memory w s x) (Lacked said faults lacks_memory w) (HoldsNone w) (HoldsElse w x) (λ m. Gives w m → ⊥)
          (λ p m is denied. held_none w (said p.1) m (says_at p.1 m is) denied) (λ p m is showed. held_else w (said p.1) m (says_at p.1 m is) x showed.0)
          (λ p m is lacked. lacked_not w (said p.1) m (says_at p.1 m is) lacked) s.number old new maps kept told h,
    )
    lacks_all (refused.StoreFault s) h = tt
    lacks_all refused.Memory h = tt

    skips : (p : S × S) (m : Map (List ℕ)) → holds p.1 ≡ Some m → Skipped p → Gives w m → IsTrue lacks_memory
    unfolding Skipped
    skips p m is (inl lacked) gives = absurd (lacked_not w (said p.1) m (says_at p.1 m is) lacked gives)
    skips p m is (inr memory) gives = memory

    gives_first : (b : List ℕ) → EachQuiet (map faults old) (map faults new) → GivenBy said faults lacks_memory w b old new → GivesFirst lacks_memory w maps b
    gives_first b quiet h =
        let At : S × S → Type 0 = λ p. (said p.1).shown w.id.0 b in
        let After : S × S → Type 0 = λ p. p.1 ≡ p.0 in (
          h.0,
          first_told holds Skipped At After (λ m. Gives w m → IsTrue lacks_memory) (λ m. m w.id.0 ≡ Some b) (λ m. Unit {0})
              skips (λ p m is shown. ((says_at p.1 m is).shown w.id.0 b).0 shown) (λ p m is same. tt) h.0 old new maps kept told
              (passed_quiet At After h.0 old new quiet h.1),
        )

    pub obtains : (r : Result ℕ Refused) (out : List ℕ) → EachQuiet (map faults old) (map faults new) → IfOk r (λ n. GivenBy said faults lacks_memory w (take n out) old new)
        → IfErr r (Refuses said faults lacks_memory w old new) → Obtains lacks_memory w maps r out
    obtains (Ok n) out quiet given lacks = gives_first (take n out) quiet given
    obtains (Err refused.Missing) out quiet given lacks = lacks_all refused.Missing lacks
    obtains (Err (refused.Damaged s x)) out quiet given lacks = lacks_all (refused.Damaged s x) lacks
    obtains (Err (refused.StoreFault s)) out quiet given lacks = rose_not _ _ (quiet s) (rose_at faults (Lacked said faults lacks_memory w) (LackedOrFailed said faults lacks_memory w) s old new lacks)
    obtains (Err refused.Memory) out quiet given lacks = tt
