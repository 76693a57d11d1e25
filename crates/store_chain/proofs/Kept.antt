-- What stores keep that are only asked, and how often they were asked.
use Rattle.std.proofs.Common.{◌≡◌, ℕ, zero, suc, ◌≤◌, List, [], ◌∷◌, map, Option, refl, sym, subst, ap, ◌∙◌, arith}
use Rattle.std.specs.List.{AllZip}
use Rattle.chunk_store.proofs.Sends.{sends_on, sends_still, sends_weaker}
use Rattle.chunk_store.proofs.Said.{keeps_itself, keeps_on, asked_no_more}
use Rattle.chunk_store.specs.Asks.{Ask, Sends, Sent}
use Rattle.chunk_store.specs.Said.{Said, KeepsOf, AskedOnce}
use Rattle.chunk_store.specs.declared.store.Store.{Ghosts as StoreWords}
use Rattle.dsy_base.specs.Maps.{Map}
use Rattle.store_chain.specs.Chains.{KeepsHeld, KeepsStores, EachOnce}
use Rattle.store_chain.specs.Faults.{NoneFalls}
use Rattle.store_chain.proofs.Pairs.{all_zip_same}

-- ---- equal values of equal lists

pub map_on : {S Y : Type 0} (f : S → Y) (x y : S) (xs ys zs : List S) → zs ≡ x ∷ xs → f y ≡ f x → map f ys ≡ map f xs → map f (y ∷ ys) ≡ map f zs
map_on f x y xs ys zs is one rest = (λ i. one i ∷ rest i) ∙ ap (λ l. map f l) (sym is)

-- ---- how often they were asked

pub once_on : {S : Type 0} (count : S → List ℕ → ℕ) (id : List ℕ) (x y : S) (xs ys zs : List S) → zs ≡ x ∷ xs → AskedOnce (count x) (count y) id → EachOnce count id xs ys
    → EachOnce count id zs (y ∷ ys)
once_on {S} count id x y xs ys zs is one rest =
    let P : List S → Type 0 = λ l. EachOnce count id l (y ∷ ys) in
    subst P (sym is) (one, rest)

pub none_more : {S : Type 0} (count : S → List ℕ → ℕ) (id : List ℕ) (xs : List S) → EachOnce count id xs xs
none_more count id xs = all_zip_same (λ a b. AskedOnce (count a) (count b) id) (λ s. asked_no_more (count s) id) xs

-- ---- what they keep

said_all : {S : Type 0} (said : S → Said) (xs ys zs : List S) → AllZip (λ a b. (q : List ℕ) → KeepsOf (said a) (said b) q) xs ys
    → AllZip (λ a b. (q : List ℕ) → KeepsOf (said a) (said b) q) ys zs → AllZip (λ a b. (q : List ℕ) → KeepsOf (said a) (said b) q) xs zs
said_all said [] [] [] first then = tt
said_all said [] [] (z ∷ zs) first then = absurd then
said_all said [] (y ∷ ys) zs first then = absurd first
said_all said (x ∷ xs) [] zs first then = absurd first
said_all said (x ∷ xs) (y ∷ ys) [] first then = absurd then
said_all said (x ∷ xs) (y ∷ ys) (z ∷ zs) first then = (λ q. keeps_on (said x) (said y) (said z) q (first.0 q) (then.0 q), said_all said xs ys zs first.1 then.1)

sent_all : {S : Type 0} (P : Ask → Type 0) (sent : S → Sent) (xs ys zs : List S) → AllZip (λ a b. Sends P (sent a) (sent b)) xs ys
    → AllZip (λ a b. Sends P (sent a) (sent b)) ys zs → AllZip (λ a b. Sends P (sent a) (sent b)) xs zs
sent_all P sent [] [] [] first then = tt
sent_all P sent [] [] (z ∷ zs) first then = absurd then
sent_all P sent [] (y ∷ ys) zs first then = absurd first
sent_all P sent (x ∷ xs) [] zs first then = absurd first
sent_all P sent (x ∷ xs) (y ∷ ys) [] first then = absurd then
sent_all P sent (x ∷ xs) (y ∷ ys) (z ∷ zs) first then = (sends_on P (sent x) (sent y) (sent z) first.0 then.0, sent_all P sent xs ys zs first.1 then.1)

sent_weaker : {S : Type 0} (P Q : Ask → Type 0) → ((a : Ask) → P a → Q a) → (sent : S → Sent) (xs ys : List S)
    → AllZip (λ a b. Sends P (sent a) (sent b)) xs ys → AllZip (λ a b. Sends Q (sent a) (sent b)) xs ys
sent_weaker P Q more sent [] [] h = tt
sent_weaker P Q more sent [] (y ∷ ys) h = absurd h
sent_weaker P Q more sent (x ∷ xs) [] h = absurd h
sent_weaker P Q more sent (x ∷ xs) (y ∷ ys) h = (sends_weaker P Q more (sent x) (sent y) h.0, sent_weaker P Q more sent xs ys h.1)

module _ {S : Type 0} (store : StoreWords S) (P : Ask → Type 0) where
  -- stores that weren't asked
  pub kept_still : (xs : List S) → KeepsStores store P xs xs
  kept_still xs = record {
    held = refl;
    members = refl;
    files = refl;
    folders = refl;
    places = refl;
    says = all_zip_same (λ a b. (q : List ℕ) → KeepsOf (store.said a) (store.said b) q) (λ s. keeps_itself (store.said s)) xs;
    sends = all_zip_same (λ a b. Sends P (store.sent a) (store.sent b)) (λ s. sends_still P (store.sent s)) xs;
    never_fall = λ k. omega arith;
  }

  -- stores that were asked again
  pub kept_on : (xs ys zs : List S) → KeepsStores store P xs ys → KeepsStores store P ys zs → KeepsStores store P xs zs
  kept_on xs ys zs first then = record {
    held = then.held ∙ first.held;
    members = then.members ∙ first.members;
    files = then.files ∙ first.files;
    folders = then.folders ∙ first.folders;
    places = then.places ∙ first.places;
    says = said_all store.said xs ys zs first.says then.says;
    sends = sent_all P store.sent xs ys zs first.sends then.sends;
    never_fall = λ k. omega (arith, first.never_fall k, then.never_fall k);
  }

  -- stores that may have been asked more
  pub kept_weaker : (Q : Ask → Type 0) → ((a : Ask) → P a → Q a) → (xs ys : List S) → KeepsStores store P xs ys → KeepsStores store Q xs ys
  kept_weaker Q more xs ys h = record {
    held = h.held;
    members = h.members;
    files = h.files;
    folders = h.folders;
    places = h.places;
    says = h.says;
    sends = sent_weaker P Q more store.sent xs ys h.sends;
    never_fall = h.never_fall;
  }

  -- from the first of them and the rest
  module _ (x y : S) (xs ys zs : List S) (is : zs ≡ x ∷ xs) (same : store.holds y ≡ store.holds x) (members : store.members y ≡ store.members x) (lies : store.folder y ≡ store.folder x) (folders : store.folders y ≡ store.folders x) (there : store.place y ≡ store.place x)
      (says : (q : List ℕ) → KeepsOf (store.said x) (store.said y) q) (sends : Sends P (store.sent x) (store.sent y)) (never_falls : store.faults x ≤ store.faults y) where
    none_falls : NoneFalls (map store.faults xs) (map store.faults ys) → NoneFalls (map store.faults (x ∷ xs)) (map store.faults (y ∷ ys))
    none_falls rest zero = never_falls
    none_falls rest (suc k) = rest k

    pub kept_next : KeepsStores store P xs ys → KeepsStores store P zs (y ∷ ys)
    kept_next rest =
        let K : List S → Type 0 = λ l. KeepsStores store P l (y ∷ ys) in
        subst K (sym is) (record {
          held = λ i. same i ∷ rest.held i;
          members = λ i. members i ∷ rest.members i;
          files = λ i. lies i ∷ rest.files i;
          folders = λ i. folders i ∷ rest.folders i;
          places = λ i. there i ∷ rest.places i;
          says = (says, rest.says);
          sends = (sends, rest.sends);
          never_fall = none_falls rest.never_fall;
        })

-- ---- whatever was sent

pub stay_of : {S : Type 0} (store : StoreWords S) (P : Ask → Type 0) (xs ys : List S) → KeepsStores store P xs ys → KeepsHeld store.holds store.folder store.place store.said store.faults xs ys
stay_of store P xs ys h = record { held = h.held; files = h.files; places = h.places; says = h.says; never_fall = h.never_fall }

module _ {S : Type 0} (holds folder : S → Option (Map (List ℕ))) (place : S → List ℕ) (said : S → Said) (faults : S → ℕ) where
  -- stores that weren't asked
  pub stay_still : (xs : List S) → KeepsHeld holds folder place said faults xs xs
  stay_still xs = record {
    held = refl;
    files = refl;
    places = refl;
    says = all_zip_same (λ a b. (q : List ℕ) → KeepsOf (said a) (said b) q) (λ s. keeps_itself (said s)) xs;
    never_fall = λ k. omega arith;
  }

  -- stores that were asked again
  pub stay_on : (xs ys zs : List S) → KeepsHeld holds folder place said faults xs ys → KeepsHeld holds folder place said faults ys zs → KeepsHeld holds folder place said faults xs zs
  stay_on xs ys zs first then = record {
    held = then.held ∙ first.held;
    files = then.files ∙ first.files;
    places = then.places ∙ first.places;
    says = said_all said xs ys zs first.says then.says;
    never_fall = λ k. omega (arith, first.never_fall k, then.never_fall k);
  }
