-- Where the head of a reply ends, in a longer and longer front of the bytes.
use Rattle.std.proofs.Common.{◌≡◌, ℕ, zero, suc, ◌-◌, ◌≤◌, List, ◌++◌, length, map, take, false, None, Some, Err, refl, sym, ◌∙◌, subst, inl, inr, arith}
use Rattle.std.specs.Prelude.{Option, Result, IfSome}
use Rattle.std.proofs.Math.ListN.{get_or-append}
use Rattle.std.proofs.lemmas.Grind.{common_steps}
use Rattle.std.proofs.lemmas.List.{length-append, take-append-le}
use Rattle.dsy_base.specs.Links.{Traffic}
use Rattle.http_read.proofs.Streams.{weaker}
use Rattle.http_read.specs.Reads.{CountsReply, CountsRead, IfBad, IfWire, Receives, unanswered_of}
use Rattle.http_read.specs.Refusals.{HasNoHead, IsRefused, IsRefusedByHead}
use Rattle.http_read.specs.Replies.{SaysHead}
use Rattle.http_read.specs.declared.fault.BadReply.{BadReply}
use Rattle.http_read.specs.declared.fault.BadReply.TheVariants as bad
use Rattle.http_read.specs.declared.fault.Unanswered.{Unanswered}
use Rattle.http_read.specs.declared.fault.Unanswered.TheVariants as unanswered
use Rattle.http_read.specs.declared.fault.Unread.{Unread}
use Rattle.http_read.specs.declared.fault.Unread.TheVariants as unread
use Rattle.http_read.specs.declared.receiving.Received.{Received}
use Rattle.http_frames.specs.HeadEnd.{IsFirstEnd, ends_at}
use Rattle.http_frames.specs.declared.fault.WireFault.{WireFault}
use Rattle.http_frames.specs.declared.fault.WireFault.TheVariants as faults
use Rattle.http_wire.specs.Reply.{IsReplyHead, reply_of}
use Rattle.http_wire.specs.declared.reply.Method.{Method}
use Rattle.http_wire.specs.declared.reply.ReplyHead.{ReplyHead}
use Rattle.httparse.specs.Grammar.{ResponseHead, status_code}
use Rattle.httparse.specs.Spans.{name_and_value}

-- no head ends where it begins
pub none_at_front : (b : List ℕ) (m : ℕ) → m ≤ 0 → ends_at b m ≡ false
unfolding ends_at
none_at_front b zero le = refl
none_at_front b (suc m) le = absurd (omega arith)

-- what was received up to the end of a head and behind it says what the head says
pub says_head : (m : Method) (head filled : ℕ) (buffer slice : List ℕ) (says : Result ReplyHead WireFault) (traffic : Option Traffic)
    → head ≤ filled → filled ≤ length buffer → length buffer ≡ 16384 → IsFirstEnd (take filled buffer) head → slice ≡ take head buffer
    → ((h : ResponseHead) → IsReplyHead slice h → says ≡ reply_of m (status_code h) (map name_and_value h.fields))
    → (((h : ResponseHead) → ¬ (IsReplyHead slice h)) → says ≡ Err faults.BadHead)
    → IfSome traffic (λ t. t.received ≡ take filled buffer) → IfSome traffic (λ t. SaysHead m t.received head says)
says_head m head filled buffer slice says traffic le fits size ends is found absent received =
    let front : take head (take filled buffer) ≡ slice = grind (arith, common_steps) in
    let S : List ℕ → Type 0 = λ b. SaysHead m b head says in
    let H : List ℕ → Type 0 = λ b. (h : ResponseHead) → IsReplyHead b h → says ≡ reply_of m (status_code h) (map name_and_value h.fields) in
    let A : List ℕ → Type 0 = λ b. ((h : ResponseHead) → ¬ (IsReplyHead b h)) → says ≡ Err faults.BadHead in
    weaker traffic (λ t same. subst S (sym same) (record {
      ends = ends;
      near = omega arith;
      found = subst H (sym front) found;
      absent = subst A (sym front) absent;
    })) received

-- a fault before the head's end
pub refused_early : (A : Type 0) (m : Method) (u : Unread) (traffic : Option Traffic)
    → IfWire {A = Received} (Err u) (λ f. IfSome traffic (λ t. HasNoHead t f))
    → IfBad {A = A} (Err (unanswered_of u)) (λ reason. IfSome traffic (λ t. IsRefusedByHead m t reason))
refused_early A m (unread.Wire f) traffic is = weaker traffic (λ t none. inl none) is
refused_early A m unread.Failed traffic is = tt

-- a fault of the head
pub refused_head : (m : Method) (head : ℕ) (f : WireFault) (traffic : Option Traffic) → IfSome traffic (λ t. SaysHead m t.received head (Err f))
    → IfSome traffic (λ t. IsRefusedByHead m t (bad.Wire f))
refused_head m head f traffic says = weaker traffic (λ t is. inr (record { size = head; says = is })) says

-- what a head refuses is refused with any room
pub by_head : (m : Method) (room : ℕ) (t : Traffic) (reason : BadReply) → IsRefusedByHead m t reason → IsRefused m room t reason
by_head m room t (bad.Status status) is = is
by_head m room t (bad.Wire f) (inl none) = inl none
by_head m room t (bad.Wire f) (inr head) = inr (inl head)

pub refused_by_head : (A B : Type 0) (m : Method) (room : ℕ) (traffic : Option Traffic) (u : Unanswered)
    → IfBad {A = A} (Err u) (λ reason. IfSome traffic (λ t. IsRefusedByHead m t reason))
    → IfBad {A = B} (Err u) (λ reason. IfSome traffic (λ t. IsRefused m room t reason))
refused_by_head A B m room traffic (unanswered.Bad reason) is = weaker traffic (λ t head. by_head m room t reason head) is
refused_by_head A B m room traffic unanswered.Failed is = tt
refused_by_head A B m room traffic unanswered.Memory is = tt

pub counts_early : (A : Type 0) (u : Unread) (old new : ℕ) → CountsRead {A = Received} old new (Err u) → CountsReply {A = A} old new (Err (unanswered_of u))
counts_early A (unread.Wire f) old new is = is
counts_early A unread.Failed old new is = is

-- what follows the first bytes changes nothing of where a head ends in them
ends_more : (b c : List ℕ) (n : ℕ) → n ≤ length b → ends_at (b ++ c) n ≡ ends_at b n
unfolding ends_at
ends_more b c zero le = refl
ends_more b c (suc n) le =
    rw (get_or-append b c 0 (suc n - 1) (omega arith), get_or-append b c 0 (suc n - 2) (omega arith), get_or-append b c 0 (suc n - 3) (omega arith)) refl

says_more : (m : Method) (b c : List ℕ) (n : ℕ) (says : Result ReplyHead WireFault) → SaysHead m b n says → SaysHead m (b ++ c) n says
says_more m b c n says is =
    let front : take n (b ++ c) ≡ take n b = take-append-le n b c is.ends.inside in
    let H : List ℕ → Type 0 = λ x. (h : ResponseHead) → IsReplyHead x h → says ≡ reply_of m (status_code h) (map name_and_value h.fields) in
    let A : List ℕ → Type 0 = λ x. ((h : ResponseHead) → ¬ (IsReplyHead x h)) → says ≡ Err faults.BadHead in
    record {
      ends = record {
        inside = omega (arith, length-append b c, is.ends.inside);
        ends = ends_more b c n is.ends.inside ∙ is.ends.ends;
        least = λ m lt. ends_more b c m (omega (arith, is.ends.inside)) ∙ is.ends.least m lt;
      };
      near = is.near;
      found = subst H (sym front) is.found;
      absent = subst A (sym front) is.absent;
    }

-- more was received behind the head
pub says_on : (m : Method) (n : ℕ) (says : Result ReplyHead WireFault) (old new : Option Traffic) → Receives old new
    → IfSome old (λ t. SaysHead m t.received n says) → IfSome new (λ t. SaysHead m t.received n says)
says_on m n says None new got is = subst (λ o. IfSome o (λ t. SaysHead m t.received n says)) (sym got) tt
says_on m n says (Some t) new got is =
    subst (λ o. IfSome o (λ t. SaysHead m t.received n says)) (sym got.2) (says_more m t.received got.0 n says is)
