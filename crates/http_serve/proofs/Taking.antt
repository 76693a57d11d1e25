-- One turn on a connection, by how it ends.
use Rattle.std.proofs.Common.{◌≡◌, ℕ, List, [], ◌∷◌, ◌++◌, take, drop, true, false, cond, Option, Some, None, refl, sym, ap, subst, ◌∙◌, inl, inr, unwrap_or}
use Rattle.std.specs.Prelude.{IfSome}
use Rattle.std.specs.Option.{option_map}
use Rattle.std.proofs.lemmas.List.{append-nil}
use Rattle.dsy_base.specs.Links.{Traffic, sends}
use Rattle.http_serve.specs.Answers.{Answer}
use Rattle.http_serve.specs.Coming.{ComesFirst}
use Rattle.http_serve.specs.Protocols.{Asked, Protocol}
use Rattle.http_serve.specs.Requests.{HasNone, IsNextRequest, IsOver, behind}
use Rattle.http_serve.specs.Steps.{AreBothAlike, ServedState, StepLacks, Steps}
use Rattle.http_serve.specs.Streams.{Stream, sent_in, skips, stream_in}
use Rattle.http_serve.specs.Turns.{BreaksOff, ConnectionFails, IsAlikeOrNext, IsNear, Lingers, RequestsStop, Stays, TurnsGo, reply_bytes, turn_of}
use Rattle.http_serve.proofs.Talking.{always_told, if_told, talks_none, talks_one}

weaker : {X : Type 0} {P Q : X → Type 0} (o : Option X) → ((x : X) → P x → Q x) → IfSome o P → IfSome o Q
weaker None f p = tt
weaker (Some x) f p = f x p

paired : {P : Stream → Stream → Type 0} (a b : Option Stream) → sent_in b ≡ sent_in a → ((s u : Stream) → u.sent ≡ s.sent → P s u) → IfSome a (λ s. IfSome b (λ u. P s u))
paired None b same f = tt
paired (Some s) None same f = tt
paired (Some s) (Some u) same f = f s u (ap (λ o. unwrap_or o []) same)

-- b was sent besides
abbrev tells : List ℕ → Stream → Stream
tells b s = record { left = s.left; sent = s.sent ++ b }

pub told_more : (w b : List ℕ) (old new : Option Traffic) → new ≡ option_map (sends b) old → stream_in w new ≡ option_map (tells b) (stream_in w old)
told_more w b None new is = ap (stream_in w) is
told_more w b (Some t) new is = ap (stream_in w) is

module _ {R M : Type 0} (p : Protocol R M) (same_alike : (m : M) → p.answering.alike m m) where
  alike_same : (o : Option M) → AreBothAlike p.answering.alike o o
  alike_same None = tt
  alike_same (Some m) = same_alike m

  same_or_next : (left : Option (List ℕ)) (s : ServedState M) → IsAlikeOrNext p left s s
  same_or_next None s = alike_same s.files
  same_or_next (Some b) s = inl (alike_same s.files)

  pub near_same : (left : Option (List ℕ)) (s : ServedState M) → IsNear p left s s
  near_same left s = record { files = always_told s.files (same_or_next left s); unfailed = refl }

  nothing : (s u : Stream) (shelf : ServedState M) → u.sent ≡ s.sent → BreaksOff p s.left s.sent shelf (Some s.left) u.sent shelf
  nothing s u shelf is = record {
    turns = [];
    talks = talks_none p s.left shelf;
    part = [];
    most = inl (refl, refl);
    sent = is ∙ sym (append-nil s.sent);
  }

  pub turn_cut : (a b : Option Stream) (shelf : ServedState M) → sent_in b ≡ sent_in a → ConnectionFails p a shelf b shelf
  turn_cut a b shelf same = paired a b same (λ s u is. (Some s.left, nothing s u shelf is))

  pub turn_lacks : (a b : Option Stream) (shelf : ServedState M) → sent_in b ≡ sent_in a → Lingers p a shelf b shelf
  turn_lacks a b shelf same = paired a b same (λ s u is. (Some s.left, shelf, nothing s u shelf is, near_same (Some s.left) shelf))

  pub turn_none : (a b : Option Stream) (shelf : ServedState M) → sent_in b ≡ sent_in a → IfSome a (λ s. HasNone p.reading s.left) → RequestsStop p a shelf b shelf
  turn_none None b shelf same none = tt
  turn_none (Some s) None shelf same none = tt
  turn_none (Some s) (Some u) shelf same none = (
    Some s.left,
    record {
      turns = [];
      talks = talks_none p s.left shelf;
      sent = ap (λ o. unwrap_or o []) same ∙ sym (append-nil s.sent);
    },
    none,
  )

  pub turn_unanswered : (q : Asked R) (a b : Option Stream) (shelf shelf' : ServedState M) → ComesFirst p.reading q a b → IfSome shelf.files (λ _. StepLacks p.answering shelf q.request q.body shelf') → shelf'.faults ≡ shelf.faults → Lingers p a shelf b shelf'
  turn_unanswered q a b shelf shelf' comes lacks unfailed =
      weaker a (λ s n. subst (λ (o : Option Stream). IfSome o (λ u. (left : Option (List ℕ)) × (mid : ServedState M) × BreaksOff p s.left s.sent shelf left u.sent mid × IsNear p left mid shelf')) (sym n.2)
      (Some s.left, shelf, nothing s (skips n.0 s) shelf refl, record { files = if_told shelf.files (λ l. inr (n.0, q, n.1, l)) lacks; unfailed = unfailed })) comes

  module _ (q : Asked R) (r : Answer) (a b c : Option Stream) (shelf shelf' : ServedState M) (x : List ℕ) (comes : ComesFirst p.reading q a b)
      (fair : p.fair (turn_of q r)) (step : IfSome shelf.files (λ _. Steps p.answering shelf q.request q.body r shelf')) where
    -- the turn with its whole reply
    whole : (s : Stream) (n : ℕ) → IsNextRequest p.reading s.left n q → x ≡ reply_bytes p.reading.closes (turn_of q r) → TurnsGo p s.left s.sent shelf (behind p.reading q s.left n) (s.sent ++ x) shelf'
    whole s n next bytes = record {
      turns = turn_of q r ∷ [];
      talks = talks_one p s.left n q r shelf shelf' next fair step;
      sent = ap (λ y. s.sent ++ y) (bytes ∙ sym (append-nil (reply_bytes p.reading.closes (turn_of q r))));
    }

    broken : (s : Stream) (n k : ℕ) → IsNextRequest p.reading s.left n q → x ≡ take k (reply_bytes p.reading.closes (turn_of q r)) → BreaksOff p s.left s.sent shelf (behind p.reading q s.left n) (s.sent ++ x) shelf'
    broken s n k next bytes = record {
      turns = turn_of q r ∷ [];
      talks = talks_one p s.left n q r shelf shelf' next fair step;
      part = x;
      most = inr ([], turn_of q r, k, refl, bytes);
      sent = refl;
    }

    after : (s : Stream) (n : ℕ) → b ≡ Some (skips n s) → c ≡ option_map (tells x) b → c ≡ Some (tells x (skips n s))
    after s n is more = more ∙ ap (option_map (tells x)) is

    pub turn_open : c ≡ option_map (tells x) b → x ≡ reply_bytes p.reading.closes (turn_of q r) → p.reading.closes q.request ≡ false → Stays p a shelf c shelf'
    turn_open more bytes stays =
        weaker a (λ s n. (
          tells x (skips n.0 s),
          after s n.0 n.2 more,
          subst (λ (l : Option (List ℕ)). TurnsGo p s.left s.sent shelf l (s.sent ++ x) shelf') (ap (λ t. cond t None (Some (drop n.0 s.left))) stays) (whole s n.0 n.1 bytes),
        )) comes

    pub turn_closed : c ≡ option_map (tells x) b → x ≡ reply_bytes p.reading.closes (turn_of q r) → p.reading.closes q.request ≡ true → RequestsStop p a shelf c shelf'
    turn_closed more bytes closes =
        weaker a (λ s n. subst (λ (o : Option Stream). IfSome o (λ u. (left : Option (List ℕ)) × TurnsGo p s.left s.sent shelf left u.sent shelf' × IsOver p.reading left)) (sym (after s n.0 n.2 more)) (
          behind p.reading q s.left n.0,
          whole s n.0 n.1 bytes,
          subst (IsOver p.reading) (sym (ap (λ t. cond t None (Some (drop n.0 s.left))) closes)) tt,
        )) comes

    pub turn_broken : (k : ℕ) → c ≡ option_map (tells x) b → x ≡ take k (reply_bytes p.reading.closes (turn_of q r)) → ConnectionFails p a shelf c shelf'
    turn_broken k more bytes =
        weaker a (λ s n. subst (λ (o : Option Stream). IfSome o (λ u. (left : Option (List ℕ)) × BreaksOff p s.left s.sent shelf left u.sent shelf')) (sym (after s n.0 n.2 more)) (
          behind p.reading q s.left n.0,
          broken s n.0 k n.1 bytes,
        )) comes

    pub turn_lingers : (k : ℕ) → c ≡ option_map (tells x) b → x ≡ take k (reply_bytes p.reading.closes (turn_of q r)) → Lingers p a shelf c shelf'
    turn_lingers k more bytes =
        weaker a (λ s n. subst (λ (o : Option Stream). IfSome o (λ u. (left : Option (List ℕ)) × (mid : ServedState M) × BreaksOff p s.left s.sent shelf left u.sent mid × IsNear p left mid shelf')) (sym (after s n.0 n.2 more)) (
          behind p.reading q s.left n.0,
          shelf',
          broken s n.0 k n.1 bytes,
          near_same (behind p.reading q s.left n.0) shelf',
        )) comes
