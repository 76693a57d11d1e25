-- Questions to one store, and to stores in turn.
use Rattle.std.proofs.Common.{◌≡◌, ℕ, ◌+◌, ◌≤◌, List, [], ◌∷◌, refl, sym, subst, ◌∙◌, arith}
use Rattle.std.specs.List.{AllZip}
use Rattle.chunk_store.proofs.Said.{keeps_itself, keeps_on}
use Rattle.chunk_store.proofs.Sends.{sends_on, sends_still}
use Rattle.chunk_store.specs.declared.store.Store.{Ghosts as StoreWords}
use Rattle.dsy_base.specs.Counts.{Rose}
use Rattle.store_group.specs.Answers.{AskedUpTo, ask_for}
use Rattle.store_group.specs.declared.answer.Question.{Question}

module _ {S : Type 0} (store : StoreWords S) (q : Question) (id : List ℕ) where
  -- a store that wasn't asked
  pub asked_none : (n : ℕ) (s : S) → AskedUpTo store q n id s s
  asked_none n s = record {
    holds = refl;
    members = refl;
    folder = refl;
    folders = refl;
    place = refl;
    said = λ x. keeps_itself (store.said s) x;
    sends = sends_still (λ a. a ≡ ask_for q id) (store.sent s);
    this = omega arith;
    no_less = omega arith;
    others = λ x apart. refl;
    stays = refl;
    faults = omega arith;
    paid = omega arith;
  }

  -- one that failed and was asked again
  pub asked_on : (n k : ℕ) (s t u : S) → k ≡ 1 + n → Rose (store.faults s) (store.faults t) → AskedUpTo store q 1 id s t → AskedUpTo store q n id t u → AskedUpTo store q k id s u
  asked_on n k s t u sum rose first then = record {
    holds = then.holds ∙ first.holds;
    members = then.members ∙ first.members;
    folder = then.folder ∙ first.folder;
    folders = then.folders ∙ first.folders;
    place = then.place ∙ first.place;
    said = λ x. keeps_on (store.said s) (store.said t) (store.said u) x (first.said x) (then.said x);
    sends = sends_on (λ a. a ≡ ask_for q id) (store.sent s) (store.sent t) (store.sent u) first.sends then.sends;
    this = omega (arith, sum, first.this, then.this);
    no_less = omega (arith, first.no_less, then.no_less);
    others = λ x apart. then.others x apart ∙ first.others x apart;
    stays = then.stays ∙ first.stays;
    faults = omega (arith, first.faults, then.faults);
    paid = omega (arith, rose, first.this, first.no_less, then.no_less, then.paid);
  }

  -- stores that weren't asked
  pub all_none : (n : ℕ) (stores : List S) → AllZip (AskedUpTo store q n id) stores stores
  all_none n [] = tt
  all_none n (s ∷ stores) = (asked_none n s, all_none n stores)

  -- the first of stores, and those behind it
  pub all_behind : (R : S → S → Type 0) (s t : S) (xs ys old : List S) → old ≡ s ∷ xs → R s t → AllZip R xs ys → AllZip R old (t ∷ ys)
  all_behind R s t xs ys old is first rest = subst (λ (l : List S). AllZip R l (t ∷ ys)) (sym is) (first, rest)

  -- a store that may have been asked more often
  pub asked_more : (n m : ℕ) (s t : S) → n ≤ m → AskedUpTo store q n id s t → AskedUpTo store q m id s t
  asked_more n m s t more h = record {
    holds = h.holds;
    members = h.members;
    folder = h.folder;
    folders = h.folders;
    place = h.place;
    said = h.said;
    sends = h.sends;
    this = omega (arith, more, h.this);
    no_less = h.no_less;
    others = h.others;
    stays = h.stays;
    faults = h.faults;
    paid = h.paid;
  }
