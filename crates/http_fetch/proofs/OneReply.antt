-- The reply to a GET says one thing.
use Rattle.std.proofs.Common.{◌≡◌, ℕ, ◌==◌, ◌<◌, ◌≤◌, Bool, true, false, cond, List, [], length, drop, Ok, Err, refl, sym, ◌∙◌, ap, ◌⊎◌, inl, inr, arith}
use Rattle.std.specs.Prelude.{Result}
use Rattle.std.proofs.lemmas.Bool.Decides.{nat_tests}
use Rattle.dsy_base.specs.Links.{Traffic}
use Rattle.http_frames.specs.Body.{body_in}
use Rattle.http_frames.specs.HeadEnd.{head_limit}
use Rattle.http_frames.specs.declared.body.BodyKind.{BodyKind}
use Rattle.http_frames.specs.declared.fault.WireFault.{WireFault}
use Rattle.http_frames.specs.declared.fault.WireFault.TheVariants as faults
use Rattle.http_fetch.proofs.Rooms.{fits_room, told_fits}
use Rattle.http_fetch.specs.Fetching.{GivesBody, HasNoBody, RepliesToGet, tells_more}
use Rattle.http_read.specs.Reads.{IsFault}
use Rattle.http_read.specs.Refusals.{HasNoHead, IsUnwanted}
use Rattle.http_read.specs.Replies.{SaysHead}
use Rattle.http_fetch.specs.declared.fetch.Unfetched.{Unfetched}
use Rattle.http_fetch.specs.declared.fetch.Unfetched.TheVariants as unfetched
use Rattle.http_wire.specs.declared.reply.Method.{Method}
use Rattle.http_wire.specs.declared.reply.Method.TheVariants as method
use Rattle.http_wire.specs.declared.reply.ReplyHead.{ReplyHead}

-- a head says one thing
abbrev pub OneHead : Type 0
OneHead = (m : Method) (b : List ℕ) (n k : ℕ) (r s : Result ReplyHead WireFault) → SaysHead m b n r → SaysHead m b k s → (n ≡ k) × (r ≡ s)

-- ---- what a reply says, by its head and the bytes behind it

abbrev body_read : Result (List ℕ) WireFault → Result (List ℕ) Unfetched
body_read (Ok b) = Ok b
body_read (Err f) = Err (unfetched.Wire f)

abbrev body_said : ℕ → BodyKind → List ℕ → Result (List ℕ) Unfetched
body_said most k rest = cond (tells_more most k) (Err (unfetched.Wire faults.BodyTooLong)) (body_read (body_in most k rest))

abbrev status_said : ℕ → ReplyHead → List ℕ → Result (List ℕ) Unfetched
status_said most h rest =
    cond (h.status == 200) (body_said most h.body rest) (cond (h.status == 404) (Err unfetched.Absent) (Err (unfetched.Status h.status)))

abbrev said : ℕ → Result ReplyHead WireFault → List ℕ → Result (List ℕ) Unfetched
said most (Ok h) rest = status_said most h rest
said most (Err f) rest = Err (unfetched.Wire f)

record Headed (most : ℕ) (t : Traffic) (r : Result (List ℕ) Unfetched) : Type 0 where
  size : ℕ
  says : Result ReplyHead WireFault
  head : SaysHead method.Get t.received size says
  is : r ≡ said most says (drop size t.received)

record Headless (t : Traffic) (r : Result (List ℕ) Unfetched) : Type 0 where
  fault : WireFault
  none : HasNoHead t fault
  is : r ≡ Err (unfetched.Wire fault)

both : (b : Bool) (P : Type 0) → (b ≡ true → P) → (b ≡ false → P) → P
both true P p q = p refl
both false P p q = q refl

given : (most : ℕ) (t : Traffic) (b : List ℕ) → GivesBody most t b → Headed most t (Ok b)
given most t b gives =
    let rest = drop gives.body.size t.received in
    let told : tells_more most gives.body.body ≡ false = told_fits gives.body.room most gives.body.body rest b gives.body.bytes gives.few in
    let read : body_in most gives.body.body rest ≡ Ok b = (fits_room gives.body.room most gives.body.body rest b gives.body.bytes gives.few).0 in
    record { size = gives.body.size; says = Ok (record { status = 200; body = gives.body.body }); head = gives.body.says; is = rw (told, read) refl }

no_body : (most : ℕ) (t : Traffic) (f : WireFault) → HasNoBody most t f → Headed most t (Err (unfetched.Wire f))
no_body most t f is =
    record { size = is.size; says = Ok (record { status = 200; body = is.body }); head = is.says; is = go is.why }
  where
    go : ((tells_more most is.body ≡ true) × (f ≡ faults.BodyTooLong)) ⊎ ((tells_more most is.body ≡ false) × IsFault is.body is.size most t f)
        → Err (unfetched.Wire f) ≡ body_said most is.body (drop is.size t.received)
    go (inl told) = rw (told.0, told.1) refl
    go (inr wrong) = rw (wrong.0, wrong.1.bytes) refl

unwanted : (most status : ℕ) (body : BodyKind) (rest : List ℕ) → IsUnwanted method.Get status
    → Err (unfetched.Status status) ≡ said most (Ok (record { status = status; body = body })) rest
unwanted most status body rest is =
    let other : (status == 200) ≡ false = let n = is.0 in grind (arith, nat_tests) in
    let there : (status == 404) ≡ false = let n = is.1 in grind (arith, nat_tests) in
    rw (other, there) refl

verdict : (most : ℕ) (t : Traffic) (r : Result (List ℕ) Unfetched) → RepliesToGet most t r → Headless t r ⊎ Headed most t r
verdict most t (Ok b) gives = inr (given most t b gives)
verdict most t (Err unfetched.Absent) status =
    inr (record { size = status.size; says = Ok (record { status = 404; body = status.body }); head = status.says; is = refl })
verdict most t (Err (unfetched.Status s)) refused =
    inr (record {
      size = refused.0.size;
      says = Ok (record { status = s; body = refused.0.body });
      head = refused.0.says;
      is = unwanted most s refused.0.body (drop refused.0.size t.received) refused.1;
    })
verdict most t (Err (unfetched.Wire f)) (inl none) = inl (record { fault = f; none = none; is = refl })
verdict most t (Err (unfetched.Wire f)) (inr (inl head)) = inr (record { size = head.size; says = Err f; head = head.says; is = refl })
verdict most t (Err (unfetched.Wire f)) (inr (inr body)) = inr (no_body most t f body)
verdict most t (Err unfetched.Failed) never = absurd never
verdict most t (Err unfetched.Memory) never = absurd never

-- ---- two of them

one_fault : (t : Traffic) (f g : WireFault) → HasNoHead t f → HasNoHead t g → f ≡ g
one_fault t f g a b = go a.why b.why where
  go : ((head_limit ≤ length t.received) × (f ≡ faults.HeadTooLong)) ⊎ ((length t.received < head_limit) × (t.coming ≡ []) × (f ≡ faults.CutShort))
      → ((head_limit ≤ length t.received) × (g ≡ faults.HeadTooLong)) ⊎ ((length t.received < head_limit) × (t.coming ≡ []) × (g ≡ faults.CutShort)) → f ≡ g
  go (inl x) (inl y) = x.1 ∙ sym y.1
  go (inl x) (inr y) = absurd (omega (arith, x.0, y.0))
  go (inr x) (inl y) = absurd (omega (arith, x.0, y.0))
  go (inr x) (inr y) = x.2 ∙ sym y.2

no_head_ends : (most : ℕ) (t : Traffic) (r s : Result (List ℕ) Unfetched) → Headless t r → Headed most t s → r ≡ s
no_head_ends most t r s none some =
    let clash : true ≡ false = sym some.head.ends.ends ∙ none.none.none some.size some.head.ends.inside some.head.near in
    absurd (cc (clash))

pub one_reply : OneHead → (most : ℕ) (t : Traffic) (r s : Result (List ℕ) Unfetched) → RepliesToGet most t r → RepliesToGet most t s → r ≡ s
one_reply one most t r s a b = go (verdict most t r a) (verdict most t s b) where
  go : Headless t r ⊎ Headed most t r → Headless t s ⊎ Headed most t s → r ≡ s
  go (inl x) (inl y) = x.is ∙ ap (λ f. Err (unfetched.Wire f)) (one_fault t x.fault y.fault x.none y.none) ∙ sym y.is
  go (inl x) (inr y) = no_head_ends most t r s x y
  go (inr x) (inl y) = sym (no_head_ends most t s r y x)
  go (inr x) (inr y) =
      let same = one method.Get t.received x.size y.size x.says y.says x.head y.head in
      x.is ∙ ap (λ n. said most x.says (drop n t.received)) same.0 ∙ ap (λ h. said most h (drop y.size t.received)) same.1 ∙ sym y.is
