-- How a connection that was new has ended.
use Rattle.std.proofs.Common.{◌≡◌, ℕ, List, [], ◌++◌, map, Bool, true, false, Option, Some, None, IfSome, sym, ap, subst, ◌∙◌, inl, inr}
use Rattle.chunk_server.specs.Answers.{Answer}
use Rattle.chunk_server.specs.Requests.{AreRequests}
use Rattle.chunk_server.specs.Shelves.{ServedFolder}
use Rattle.chunk_server.specs.Streams.{given_in}
use Rattle.chunk_server.specs.Turns.{BreaksOff, Cut, Lacking, SendsMost, Served, Turn, replies}
use Rattle.chunk_store.specs.declared.id.DigestKind.{DigestKind}
use Rattle.dsy_base.specs.Counts.{Rose}
use Rattle.dsy_base.specs.Links.{IsFreshLink, LinkState, Traffic}
use Rattle.http_wire.specs.declared.request.Act.{Act}
use Rattle.locked_shelf.specs.Endings.{HasEndedSo, IsAnswered, IsBrokenOff, given_by}

module _ (kind : DigestKind) (may : Act → List ℕ → Answer → Type 0) (writable : Bool) (old new : ServedFolder) where
  -- what it had to give
  given : (t u : Traffic) → t.received ≡ [] → given_in (Some u) ≡ given_in (Some t) → t.coming ≡ given_by u
  given t u unread same =
      let both : given_by u ≡ t.received ++ t.coming = cc in
      sym (both ∙ ap (λ r. r ++ t.coming) unread)

  answered : (t u : Traffic) → t.received ≡ [] → t.sent ≡ [] → given_in (Some u) ≡ given_in (Some t) → Served kind may writable t old u new → IsAnswered kind may writable u
  answered t u unread unsent same served =
      let goes = served.1 in
      record {
        turns = goes.turns;
        left = served.0;
        comes = subst (λ (b : List ℕ). AreRequests writable (Some b) (map (λ (x : Turn). x.asked) goes.turns) served.0) (given t u unread same) goes.talks.comes;
        over = served.2;
        fair = goes.talks.fair;
        sent = goes.sent ∙ ap (λ (s : List ℕ). s ++ replies goes.turns) unsent;
      }

  broken_off : (t u : Traffic) (left : Option (List ℕ)) (mid : ServedFolder) → t.received ≡ [] → t.sent ≡ [] → given_in (Some u) ≡ given_in (Some t) → BreaksOff kind may writable t.coming t.sent old left u.sent mid → IsBrokenOff kind may writable u
  broken_off t u left mid unread unsent same off =
      let all : u.sent ≡ off.part = off.sent ∙ ap (λ (s : List ℕ). s ++ off.part) unsent in
      record {
        turns = off.turns;
        left = left;
        comes = subst (λ (b : List ℕ). AreRequests writable (Some b) (map (λ (x : Turn). x.asked) off.turns) left) (given t u unread same) off.talks.comes;
        fair = off.talks.fair;
        sent = subst (SendsMost off.turns) (sym all) off.most;
      }

  -- what is known of both is known of the one that has ended
  module _ (P : Traffic → Traffic → Type 0) (Q : Traffic → Type 0)
      (f : (t u : Traffic) → t.received ≡ [] → t.sent ≡ [] → given_in (Some u) ≡ given_in (Some t) → P t u → Q u) where
    ended_as : (t u : LinkState) → IsFreshLink t → given_in u.traffic ≡ given_in t.traffic → IfSome t.traffic (λ x. IfSome u.traffic (λ y. P x y)) → IfSome u.traffic Q
    ended_as t u is_fresh same h = go t.traffic u.traffic is_fresh.received is_fresh.sent same h where
      go : (a b : Option Traffic) → IfSome a (λ x. x.received ≡ []) → IfSome a (λ x. x.sent ≡ []) → given_in b ≡ given_in a → IfSome a (λ x. IfSome b (λ y. P x y)) → IfSome b Q
      go a None unread unsent same h = tt
      go None (Some y) unread unsent same h = absurd (cc)
      go (Some x) (Some y) unread unsent same h = f x y unread unsent same h

  module _ (t u : LinkState) (is_fresh : IsFreshLink t) (same : given_in u.traffic ≡ given_in t.traffic) where
    pub ends_closed : IfSome t.traffic (λ x. IfSome u.traffic (λ y. Served kind may writable x old y new)) → HasEndedSo kind may writable false u
    ends_closed h = inl (ended_as (λ x y. Served kind may writable x old y new) (IsAnswered kind may writable) answered t u is_fresh same h)

    pub ends_cut : Rose t.faults u.faults → IfSome t.traffic (λ x. IfSome u.traffic (λ y. Cut kind may writable x old y new)) → HasEndedSo kind may writable false u
    ends_cut rose h = inr (
      subst (λ (n : ℕ). Rose n u.faults) is_fresh.unfailed rose,
      ended_as (λ x y. Cut kind may writable x old y new) (IsBrokenOff kind may writable) (λ x y a b c cut. broken_off x y cut.0 new a b c cut.1) t u is_fresh same h,
    )

    pub ends_lacking : u.faults ≡ t.faults → IfSome t.traffic (λ x. IfSome u.traffic (λ y. Lacking kind may writable x old y new)) → HasEndedSo kind may writable true u
    ends_lacking unfailed h = (
      unfailed ∙ is_fresh.unfailed,
      ended_as (λ x y. Lacking kind may writable x old y new) (IsBrokenOff kind may writable) (λ x y a b c lacks. broken_off x y lacks.0 lacks.1 a b c lacks.2) t u is_fresh same h,
    )
