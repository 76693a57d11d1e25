-- Turns one behind the other.
use Rattle.std.proofs.Common.{◌≡◌, ℕ, List, [], ◌∷◌, ◌++◌, length, take, map, Option, Some, None, refl, sym, ap, subst, ◌∙◌, inl, inr, append_assoc, arith}
use Rattle.std.specs.Prelude.{IfSome, is_some}
use Rattle.std.specs.Option.{option_map}
use Rattle.std.proofs.lemmas.Bool.{false≢true}
use Rattle.std.proofs.lemmas.Grind.{flat_map-append}
use Rattle.std.proofs.lemmas.List.{append-nil, map-append, take_all}
use Rattle.std.proofs.lemmas.List.Elements.{All-nil, All-cons, All-append}
use Rattle.http_serve.specs.Answers.{Answer}
use Rattle.http_serve.specs.Protocols.{Answering, Asked, Protocol, RequestReading, Turn}
use Rattle.http_serve.specs.Requests.{AreRequests, IsNextRequest, behind}
use Rattle.http_serve.specs.Steps.{AreBothAlike, ServedState, Steps}
use Rattle.http_serve.specs.Turns.{BreaksOff, SendsMost, Takes, Talks, TurnsGo, replies, reply_bytes, turn_of}

-- ---- requests

module _ {R : Type 0} (w : RequestReading R) where
  Comes-append : (b : Option (List ℕ)) (xs ys : List (Asked R)) (mid left : Option (List ℕ)) → AreRequests w b xs mid → AreRequests w mid ys left → AreRequests w b (xs ++ ys) left
  unfolding AreRequests
  Comes-append b [] ys mid left one two = subst (λ (o : Option (List ℕ)). AreRequests w o ys left) one two
  Comes-append None (x ∷ xs) ys mid left one two = absurd one
  Comes-append (Some b) (x ∷ xs) ys mid left one two =
      (one.0, one.1, Comes-append (behind w x b one.0) xs ys mid left one.2 two)

  comes_none : (b : Option (List ℕ)) → AreRequests w b [] b
  unfolding AreRequests
  comes_none b = refl

  comes_one : (b : List ℕ) (n : ℕ) (a : Asked R) → IsNextRequest w b n a → AreRequests w (Some b) (a ∷ []) (behind w a b n)
  unfolding AreRequests
  comes_one b n a next = (n, next, refl)

-- ---- steps

mapped_told : {M : Type 0} (f : M → M) (o : Option M) → is_some (option_map f o) ≡ is_some o
mapped_told f None = refl
mapped_told f (Some m) = refl

alike_told : {M : Type 0} (alike : M → M → Type 0) (m n : Option M) → AreBothAlike alike m n → is_some n ≡ is_some m
alike_told alike None None h = refl
alike_told alike None (Some n) h = absurd h
alike_told alike (Some m) None h = absurd h
alike_told alike (Some m) (Some n) h = refl

module _ {R M : Type 0} (v : Answering R M) where
  step_told : (old : ServedState M) (r : R) (body : List ℕ) (a : Answer) (new : ServedState M) → Steps v old r body a new → is_some new.files ≡ is_some old.files
  step_told old r body a new (inl h) = ap is_some h.files ∙ mapped_told _ old.files
  step_told old r body a new (inr h) = alike_told v.alike old.files new.files h.files

  takes_told : (old : ServedState M) (ts : List (Turn R)) (new : ServedState M) → Takes v old ts new → is_some new.files ≡ is_some old.files
  unfolding Takes
  takes_told old [] new h = ap (λ (s : ServedState M). is_some s.files) h
  takes_told old (t ∷ ts) new h = takes_told h.0 ts new h.2 ∙ step_told old t.asked.request t.asked.body t.answer h.0 h.1

  Takes-append : (old : ServedState M) (ts us : List (Turn R)) (mid new : ServedState M) → Takes v old ts mid → Takes v mid us new → Takes v old (ts ++ us) new
  unfolding Takes
  Takes-append old [] us mid new one two = subst (λ (s : ServedState M). Takes v s us new) one two
  Takes-append old (t ∷ ts) us mid new one two = (one.0, one.1, Takes-append one.0 ts us mid new one.2 two)

  takes_none : (s : ServedState M) → Takes v s [] s
  unfolding Takes
  takes_none s = refl

  takes_one : (old : ServedState M) (t : Turn R) (new : ServedState M) → Steps v old t.asked.request t.asked.body t.answer new → Takes v old (t ∷ []) new
  unfolding Takes
  takes_one old t new step = (new, step, refl)

both_told : {X : Type 0} {A B C : Type 0} (o m : Option X) → (A → is_some m ≡ is_some o) → (A → B → C) → IfSome o (λ _. A) → IfSome m (λ _. B) → IfSome o (λ _. C)
both_told None m told join a b = tt
both_told (Some x) None told join a b = absurd (false≢true (told a))
both_told (Some x) (Some y) told join a b = join a b

pub if_told : {X : Type 0} {A B : Type 0} (o : Option X) → (A → B) → IfSome o (λ _. A) → IfSome o (λ _. B)
if_told None f a = tt
if_told (Some x) f a = f a

pub always_told : {X : Type 0} {A : Type 0} (o : Option X) → A → IfSome o (λ _. A)
always_told None a = tt
always_told (Some x) a = a

-- ---- turns

module _ {R M : Type 0} (p : Protocol R M) where
  pub talks_none : (b : List ℕ) (s : ServedState M) → Talks p b [] (Some b) s s
  talks_none b s = record {
    comes = comes_none p.reading (Some b);
    fair = All-nil p.fair;
    takes = always_told s.files (takes_none p.answering s);
  }

  pub talks_one : (b : List ℕ) (n : ℕ) (a : Asked R) (r : Answer) (old new : ServedState M) → IsNextRequest p.reading b n a → p.fair (turn_of a r) → IfSome old.files (λ _. Steps p.answering old a.request a.body r new) → Talks p b (turn_of a r ∷ []) (behind p.reading a b n) old new
  talks_one b n a r old new next fair step = record {
    comes = comes_one p.reading b n a next;
    fair = All-cons p.fair (turn_of a r) [] fair (All-nil p.fair);
    takes = if_told old.files (takes_one p.answering old (turn_of a r) new) step;
  }

  talks_on : (b l : List ℕ) (ts us : List (Turn R)) (left : Option (List ℕ)) (old mid new : ServedState M) → Talks p b ts (Some l) old mid → Talks p l us left mid new → Talks p b (ts ++ us) left old new
  talks_on b l ts us left old mid new one two = record {
    comes = subst (λ (xs : List (Asked R)). AreRequests p.reading (Some b) xs left) (sym (map-append (λ (t : Turn R). t.asked) ts us)) (Comes-append p.reading (Some b) (map (λ t. t.asked) ts) (map (λ t. t.asked) us) (Some l) left one.comes two.comes);
    fair = All-append p.fair ts us one.fair two.fair;
    takes = both_told old.files mid.files (takes_told p.answering old ts mid) (Takes-append p.answering old ts us mid new) one.takes two.takes;
  }

  pub goes_on : (b l before told after : List ℕ) (left : Option (List ℕ)) (old mid new : ServedState M) → TurnsGo p b before old (Some l) told mid → TurnsGo p l told mid left after new → TurnsGo p b before old left after new
  goes_on b l before told after left old mid new one two = record {
    turns = one.turns ++ two.turns;
    talks = talks_on b l one.turns two.turns left old mid new one.talks two.talks;
    sent = two.sent ∙ ap (λ x. x ++ replies p.reading.closes two.turns) one.sent ∙ append_assoc before (replies p.reading.closes one.turns) (replies p.reading.closes two.turns) ∙ ap (λ x. before ++ x) (sym (flat_map-append (reply_bytes p.reading.closes) one.turns two.turns));
  }

  -- all of what was sent is most of it
  most_of : (t : Turn R) (ts : List (Turn R)) (x : List ℕ) → SendsMost p.reading.closes ts x → SendsMost p.reading.closes (t ∷ ts) (reply_bytes p.reading.closes t ++ x)
  most_of t ts x (inl h) =
      let whole : reply_bytes p.reading.closes t ≡ take (length (reply_bytes p.reading.closes t)) (reply_bytes p.reading.closes t) = sym (take_all (length (reply_bytes p.reading.closes t)) (reply_bytes p.reading.closes t) (omega arith)) in
      inr ([], t, length (reply_bytes p.reading.closes t), ap (λ us. t ∷ us) h.0, ap (λ y. reply_bytes p.reading.closes t ++ y) h.1 ∙ append-nil (reply_bytes p.reading.closes t) ∙ whole)
  most_of t ts x (inr h) =
      inr (t ∷ h.0, h.1, h.2, ap (λ us. t ∷ us) h.3, ap (λ y. reply_bytes p.reading.closes t ++ y) h.4 ∙ sym (append_assoc (reply_bytes p.reading.closes t) (replies p.reading.closes h.0) (take h.2 (reply_bytes p.reading.closes h.1))))

  pub whole_most : (ts : List (Turn R)) → SendsMost p.reading.closes ts (replies p.reading.closes ts)
  whole_most [] = inl (refl, refl)
  whole_most (t ∷ ts) = most_of t ts (replies p.reading.closes ts) (whole_most ts)

  most_on : (ts us : List (Turn R)) (part : List ℕ) → SendsMost p.reading.closes us part → SendsMost p.reading.closes (ts ++ us) (replies p.reading.closes ts ++ part)
  most_on ts us part (inl h) =
      subst (λ (vs : List (Turn R)). SendsMost p.reading.closes vs (replies p.reading.closes ts ++ part)) (sym (ap (λ vs. ts ++ vs) h.0 ∙ append-nil ts))
      (subst (λ (x : List ℕ). SendsMost p.reading.closes ts x) (sym (ap (λ x. replies p.reading.closes ts ++ x) h.1 ∙ append-nil (replies p.reading.closes ts))) (whole_most ts))
  most_on ts us part (inr h) =
      inr (
        ts ++ h.0,
        h.1,
        h.2,
        ap (λ vs. ts ++ vs) h.3 ∙ sym (append_assoc ts h.0 (h.1 ∷ [])),
        ap (λ x. replies p.reading.closes ts ++ x) h.4 ∙ sym (append_assoc (replies p.reading.closes ts) (replies p.reading.closes h.0) (take h.2 (reply_bytes p.reading.closes h.1))) ∙ ap (λ x. x ++ take h.2 (reply_bytes p.reading.closes h.1)) (sym (flat_map-append (reply_bytes p.reading.closes) ts h.0)),
      )

  pub breaks_on : (b l before told after : List ℕ) (left : Option (List ℕ)) (old mid new : ServedState M) → TurnsGo p b before old (Some l) told mid → BreaksOff p l told mid left after new → BreaksOff p b before old left after new
  breaks_on b l before told after left old mid new one two = record {
    turns = one.turns ++ two.turns;
    talks = talks_on b l one.turns two.turns left old mid new one.talks two.talks;
    part = replies p.reading.closes one.turns ++ two.part;
    most = most_on one.turns two.turns two.part two.most;
    sent = two.sent ∙ ap (λ x. x ++ two.part) one.sent ∙ append_assoc before (replies p.reading.closes one.turns) two.part;
  }
