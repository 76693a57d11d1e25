-- A listener while connections are taken and given back.
use Rattle.std.proofs.Common.{◌≡◌, ℕ, ◌+◌, ◌≤◌, List, [], ◌∷◌, ◌++◌, length, drop, Bool, true, false, inl, inr, Option, Some, None, IfSome, refl, sym, ap, subst, ◌∙◌, arith, drop-drop, length-drop, length-append, append_assoc}
use Rattle.std.specs.Option.{option_map}
use Rattle.std.proofs.lemmas.List.{append-nil}
use Rattle.std.proofs.lemmas.List.Elements.{All-nil, All-cons, All-append}
use Rattle.dsy_base.specs.Links.{Accepts, LinkState, ListenState, Traffic}
use Rattle.locked_shelf.specs.declared.tally.Tally.{Tally}
use Rattle.locked_shelf.specs.Listening.{EndsAnyhow, GivesBack, IsServing, ServesAll, ServesSome}

here : (o : Option (List Traffic)) → IfSome o (λ queue. (0 ≤ length queue) × (o ≡ Some (drop 0 queue)))
here None = tt
here (Some queue) = (omega arith, refl)

none_gone : (o : Option (List LinkState)) → o ≡ option_map (λ done. done ++ []) o
none_gone None = refl
none_gone (Some done) = ap Some (sym (append-nil done))

one_gone : (k : LinkState) (gone : List LinkState) (o : Option (List LinkState))
    → option_map (λ done. done ++ k ∷ []) (option_map (λ done. done ++ gone) o) ≡ option_map (λ done. done ++ (gone ++ k ∷ [])) o
one_gone k gone None = refl
one_gone k gone (Some done) = ap Some (append_assoc done gone (k ∷ []))

-- one more of the queue was taken
one_more : (queue : List Traffic) (n : ℕ) (t : Option Traffic) (mid new : Option (List Traffic)) → (n ≤ length queue) × (mid ≡ Some (drop n queue)) → Accepts (Some t) mid new
    → (n + 1 ≤ length queue) × (new ≡ Some (drop (n + 1) queue))
one_more queue n t None new was a = absurd (cc (was.1))
one_more queue n t (Some rest) new was a =
    let left : drop n queue ≡ a.0 ∷ a.1 = some_of _ _ (sym was.1) ∙ a.3 in
    let more : drop (n + 1) queue ≡ a.1 = sym (drop-drop 1 n queue) ∙ ap (drop 1) left in
    (omega (arith, was.0, length-drop n queue, ap length left), a.4 ∙ ap Some (sym more))
  where
    some_of : (x y : List Traffic) → Some x ≡ Some y → x ≡ y
    some_of x y e = cc

-- a connection that has ended so has ended somehow
anyhow : (ends : Bool → LinkState → Type 0) (k : LinkState) (lacking : Bool) → ends lacking k → EndsAnyhow ends k
anyhow ends k false h = inl h
anyhow ends k true h = inr h

module _ (ends : Bool → LinkState → Type 0) (first : ListenState) where
  -- nothing was taken
  pub serving_none : IsServing ends first first 0 false
  serving_none = record {
    taken = 0;
    coming = here first.coming;
    gone = [];
    ended = none_gone first.ended;
    each = All-nil (EndsAnyhow ends);
    well = λ h. (refl, All-nil (ends false));
    faults = omega arith;
  }

  module _ (mid new : ListenState) (p q : ℕ) (l m : Bool) (h : IsServing ends first mid p l) where
    -- a connection was taken
    pub serving_more : (t : Option Traffic) → Accepts (Some t) mid.coming new.coming → new.ended ≡ mid.ended → mid.faults ≤ new.faults → q ≡ p + 1 → m ≡ l → IsServing ends first new q m
    serving_more t a ended faults one same = record {
      taken = h.taken + 1;
      coming = taken_more first.coming h.coming;
      gone = h.gone;
      ended = ended ∙ h.ended;
      each = h.each;
      well = λ e. let w = h.well (sym same ∙ e) in (omega (arith, w.0, one), w.1);
      faults = omega (arith, h.faults, faults);
    }
      where
        taken_more : (o : Option (List Traffic)) → IfSome o (λ queue. (h.taken ≤ length queue) × (mid.coming ≡ Some (drop h.taken queue)))
            → IfSome o (λ queue. (h.taken + 1 ≤ length queue) × (new.coming ≡ Some (drop (h.taken + 1) queue)))
        taken_more None c = tt
        taken_more (Some queue) c = one_more queue h.taken t mid.coming new.coming c a

    -- one was given back
    pub serving_back : (k : LinkState) (lacking : Bool) → ends lacking k → new.coming ≡ mid.coming → new.ended ≡ option_map (λ done. done ++ k ∷ []) mid.ended → new.faults ≡ mid.faults
        → (m ≡ false → (l ≡ false) × (p ≡ q + 1) × (lacking ≡ false)) → IsServing ends first new q m
    serving_back k lacking so coming ended faults well = record {
      taken = h.taken;
      coming = subst (λ o. IfSome first.coming (λ queue. (h.taken ≤ length queue) × (o ≡ Some (drop h.taken queue)))) (sym coming) h.coming;
      gone = h.gone ++ k ∷ [];
      ended = ended ∙ ap (option_map (λ done. done ++ k ∷ [])) h.ended ∙ one_gone k h.gone first.ended;
      each = All-append (EndsAnyhow ends) h.gone (k ∷ []) h.each (All-cons (EndsAnyhow ends) k [] (anyhow ends k lacking so) (All-nil (EndsAnyhow ends)));
      well = λ e.
          let now = well e in
          let was = h.well now.0 in
          let good = subst (λ (b : Bool). ends b k) now.2 so in
          (omega (arith, was.0, now.1, length-append h.gone (k ∷ [])), All-append (ends false) h.gone (k ∷ []) was.1 (All-cons (ends false) k [] good (All-nil (ends false))));
      faults = omega (arith, h.faults, faults);
    }

    -- nothing happened
    pub serving_still : new.coming ≡ mid.coming → new.ended ≡ mid.ended → mid.faults ≤ new.faults → q ≡ p → m ≡ l → IsServing ends first new q m
    serving_still coming ended faults one same = record {
      taken = h.taken;
      coming = subst (λ o. IfSome first.coming (λ queue. (h.taken ≤ length queue) × (o ≡ Some (drop h.taken queue)))) (sym coming) h.coming;
      gone = h.gone;
      ended = ended ∙ h.ended;
      each = h.each;
      well = λ e. let w = h.well (sym same ∙ e) in (omega (arith, w.0, one), w.1);
      faults = omega (arith, h.faults, faults);
    }

  -- some that were taken were dropped, or none
  pub serving_lost : (mid : ListenState) (p q : ℕ) (l m : Bool) → IsServing ends first mid p l → (m ≡ false → (l ≡ false) × (q ≡ p)) → IsServing ends first mid q m
  serving_lost mid p q l m h well = record {
    taken = h.taken;
    coming = h.coming;
    gone = h.gone;
    ended = h.ended;
    each = h.each;
    well = λ e.
        let now = well e in
        let was = h.well now.0 in
        (omega (arith, was.0, now.1), was.1);
    faults = h.faults;
  }

  pub serves_all : (new : ListenState) (p : ℕ) (l : Bool) → IsServing ends first new p l → p ≡ 0 → l ≡ false → ServesAll ends first new
  serves_all new p l h none well =
      let w = h.well well in
      record {
        taken = h.taken;
        coming = h.coming;
        gone = h.gone;
        ended = h.ended;
        number = omega (arith, w.0, none);
        well = w.1;
      }

  pub serves_some : (new : ListenState) (p : ℕ) (l : Bool) → IsServing ends first new p l → ServesSome ends first new
  serves_some new p l h = record {
    taken = h.taken;
    coming = h.coming;
    gone = h.gone;
    ended = h.ended;
    each = h.each;
  }

  -- before anything was taken
  pub serves_none : ServesSome ends first first
  serves_none = serves_some first 0 false serving_none

  -- nothing was taken or given back meanwhile
  module _ (mid : ListenState) (coming : mid.coming ≡ first.coming) (ended : mid.ended ≡ first.ended) where
    pub serves_all_later : (new : ListenState) → ServesAll ends mid new → ServesAll ends first new
    serves_all_later new h = record {
      taken = h.taken;
      coming = subst (λ o. IfSome o (λ queue. (h.taken ≤ length queue) × (new.coming ≡ Some (drop h.taken queue)))) coming h.coming;
      gone = h.gone;
      ended = h.ended ∙ ap (option_map (λ done. done ++ h.gone)) ended;
      number = h.number;
      well = h.well;
    }

    pub serves_some_later : (new : ListenState) → ServesSome ends mid new → ServesSome ends first new
    serves_some_later new h = record {
      taken = h.taken;
      coming = subst (λ o. IfSome o (λ queue. (h.taken ≤ length queue) × (new.coming ≡ Some (drop h.taken queue)))) coming h.coming;
      gone = h.gone;
      ended = h.ended ∙ ap (option_map (λ done. done ++ h.gone)) ended;
      each = h.each;
    }

    pub serves_all_still : ServesAll ends first mid
    serves_all_still = record {
      taken = 0;
      coming = subst (λ o. IfSome first.coming (λ queue. (0 ≤ length queue) × (o ≡ Some (drop 0 queue)))) (sym coming) (here first.coming);
      gone = [];
      ended = ended ∙ none_gone first.ended;
      number = refl;
      well = All-nil (ends false);
    }

    pub serves_some_still : ServesSome ends first mid
    serves_some_still = record {
      taken = 0;
      coming = subst (λ o. IfSome first.coming (λ queue. (0 ≤ length queue) × (o ≡ Some (drop 0 queue)))) (sym coming) (here first.coming);
      gone = [];
      ended = ended ∙ none_gone first.ended;
      each = All-nil (EndsAnyhow ends);
    }

-- ---- connections that are given back

-- some were dropped
pub gives_lost : (ends : Bool → LinkState → Type 0) (s : ListenState) (was now : Tally) → (now.lacking ≡ false → (was.lacking ≡ false) × (now.pending ≡ was.pending)) → now.pending ≤ was.pending → GivesBack ends s s was now
gives_lost ends s was now well few = record { back = later; coming = refl; faults = refl; few = few } where
  later : (first : ListenState) → IsServing ends first s was.pending was.lacking → IsServing ends first s now.pending now.lacking
  later first h = record {
    taken = h.taken;
    coming = h.coming;
    gone = h.gone;
    ended = h.ended;
    each = h.each;
    well = λ none.
        let lost = well none in
        let before = h.well lost.0 in
        (subst (λ (n : ℕ). n + length h.gone ≡ h.taken) (sym lost.1) before.0, before.1);
    faults = h.faults;
  }

pub gives_twice : (ends : Bool → LinkState → Type 0) (old mid new : ListenState) (was then now : Tally) → GivesBack ends old mid was then → GivesBack ends mid new then now → GivesBack ends old new was now
gives_twice ends old mid new was then now a b = record { back = λ first h. b.back first (a.back first h); coming = b.coming ∙ a.coming; faults = b.faults ∙ a.faults; few = omega (arith, a.few, b.few) }
