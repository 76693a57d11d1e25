-- What one connection has received and sent, over one read and over several.
use Rattle.std.proofs.Common.{◌≡◌, ℕ, ◌+◌, List, [], ◌++◌, length, take, drop, Some, None, Ok, Err, refl, sym, ◌∙◌, ap, subst, append_assoc, arith}
use Rattle.std.specs.Prelude.{Option, Result, IfOk, IfSome}
use Rattle.std.proofs.Math.Seq.{take-append-add}
use Rattle.std.proofs.lemmas.List.{append-nil, length-append, take_all}
use Rattle.std.specs.Option.{option_map}
use Rattle.dsy_base.specs.Links.{Traffic, ReadsNext, sends}
use Rattle.http_read.specs.Asks.{IsFront}
use Rattle.http_read.specs.Reads.{IfWire, Receives, SendsFront}
use Rattle.http_read.specs.declared.fault.Unread.{Unread}
use Rattle.http_read.specs.declared.fault.Unread.TheVariants as unread
use Rattle.http_frames.specs.declared.fault.WireFault.{WireFault}

-- the traffic t after b was received, with the rest still to come
abbrev pub grown : Traffic → List ℕ → List ℕ → Traffic
grown t b rest = record { received = t.received ++ b; coming = rest; sent = t.sent }

pub receives_next : (b : List ℕ) (old new : Option Traffic) → ReadsNext b old new → Receives old new
receives_next b None new reads = reads.received
receives_next b (Some t) new reads = (take (length b) t.coming, drop (length b) t.coming, reads.received)

pub receives_nothing : (old : Option Traffic) → Receives old old
receives_nothing None = refl
receives_nothing (Some t) = ([], t.coming, ap (λ r. Some (record { received = r; coming = t.coming; sent = t.sent })) (sym (append-nil t.received)))

pub receives_same : (old new : Option Traffic) → new ≡ old → Receives old new
receives_same old new same = subst (λ n. Receives old n) (sym same) (receives_nothing old)

pub receives_more : (old mid new : Option Traffic) → Receives old mid → Receives mid new → Receives old new
receives_more None mid new first more = subst (λ m. Receives m new) first more
receives_more (Some t) mid new first more =
    let rest : Receives (Some (grown t first.0 first.1)) new = subst (λ m. Receives m new) first.2 more in
    (first.0 ++ rest.0, rest.1, rest.2 ∙ ap (λ r. Some (record { received = r; coming = rest.1; sent = t.sent })) (append_assoc t.received first.0 rest.0))

pub sent_kept : (old new : Option Traffic) (s : List ℕ) → Receives old new → IfSome old (λ t. t.sent ≡ s)
    → IfSome new (λ t. t.sent ≡ s)
sent_kept None new s got is = subst (λ n. IfSome n (λ t. t.sent ≡ s)) (sym got) tt
sent_kept (Some t) new s got is = subst (λ n. IfSome n (λ t. t.sent ≡ s)) (sym got.2) is

pub received_next : (b x : List ℕ) (old new : Option Traffic) → ReadsNext b old new → IfSome old (λ t. t.received ≡ x)
    → IfSome new (λ t. t.received ≡ x ++ b)
received_next b x None new reads is = subst (λ n. IfSome n (λ t. t.received ≡ x ++ b)) (sym reads.received) tt
received_next b x (Some t) new reads is =
    subst (λ n. IfSome n (λ t. t.received ≡ x ++ b)) (sym reads.received) (ap (λ r. r ++ take (length b) t.coming) is ∙ ap (λ y. x ++ y) reads.next)

-- what holds for each connection that tells
pub weaker : {P Q : Traffic → Type 0} → (o : Option Traffic) → ((t : Traffic) → P t → Q t) → IfSome o P → IfSome o Q
weaker None f is = tt
weaker (Some t) f is = f t is

-- a read behind the front of a buffer
pub received_behind : (k n : ℕ) (buffer front rest : List ℕ) (old new : Option Traffic) → length front ≡ k
    → front ≡ take k buffer → ReadsNext (take n rest) old new → IfSome old (λ t. t.received ≡ take k buffer)
    → IfSome new (λ t. t.received ≡ take (k + n) (front ++ rest))
received_behind k n buffer front rest old new size is reads before =
    let all : take k buffer ++ take n rest ≡ take (k + n) (front ++ rest) =
    ap (λ x. x ++ take n rest) (sym is) ∙ sym (take-append-add front rest n) ∙ ap (λ m. take (m + n) (front ++ rest)) size in
    weaker new (λ t same. same ∙ all) (received_next (take n rest) (take k buffer) old new reads before)

-- a fault of what was received, with another answer in its place
pub wire_weaker : (A B : Type 0) (P Q : WireFault → Type 0) (u : Unread) → ((f : WireFault) → P f → Q f)
    → IfWire {A = A} (Err u) P → IfWire {A = B} (Err u) Q
wire_weaker A B P Q (unread.Wire f) more is = more f is
wire_weaker A B P Q unread.Failed more is = tt

-- other facts of an answer
pub ok_weaker : (A E : Type 0) (P Q : A → Type 0) (r : Result A E) → ((x : A) → P x → Q x) → IfOk r P → IfOk r Q
ok_weaker A E P Q (Ok x) more is = more x is
ok_weaker A E P Q (Err e) more is = tt

pub wire_same : (A : Type 0) (P Q : WireFault → Type 0) (r : Result A Unread) → ((f : WireFault) → P f → Q f) → IfWire r P → IfWire r Q
wire_same A P Q (Ok x) more is = tt
wire_same A P Q (Err u) more is = wire_weaker A A P Q u more is

-- ---- what was sent

-- all of it is a front of it
pub whole_front : (b : List ℕ) (o : Option Traffic) → IfSome o (λ t. t.sent ≡ b) → IfSome o (λ t. IsFront b t.sent)
whole_front b o is =
    let all : (t : Traffic) → t.sent ≡ b → IsFront b t.sent = λ t same. (length b, omega arith, same ∙ sym (take_all (length b) b (omega arith))) in
    weaker o all is

pub sent_two : (a b : List ℕ) (old mid new : Option Traffic) → IfSome old (λ t. t.sent ≡ []) → mid ≡ option_map (sends a) old
    → new ≡ option_map (sends b) mid → IfSome new (λ t. t.sent ≡ a ++ b)
sent_two a b None mid new none first more =
    subst (λ o. IfSome o (λ t. t.sent ≡ a ++ b)) (sym (more ∙ ap (option_map (sends b)) first)) tt
sent_two a b (Some t) mid new none first more =
    subst (λ o. IfSome o (λ t. t.sent ≡ a ++ b)) (sym (more ∙ ap (option_map (sends b)) first)) (ap (λ s. (s ++ a) ++ b) none)

pub sent_front : (a b : List ℕ) (old mid new : Option Traffic) → IfSome old (λ t. t.sent ≡ []) → mid ≡ option_map (sends a) old
    → SendsFront b mid new → IfSome new (λ t. IsFront (a ++ b) t.sent)
sent_front a b old mid new none first more =
    let front : (t : Traffic) → t.sent ≡ a ++ take more.0 b → IsFront (a ++ b) t.sent =
    λ t same. (length a + more.0, omega (arith, length-append a b, more.1), same ∙ sym (take-append-add a b more.0)) in
    weaker new front (sent_two a (take more.0 b) old mid new none first more.2)
