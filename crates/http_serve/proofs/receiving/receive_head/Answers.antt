use Rattle.std.proofs.Common.{◌≡◌, ◌≤◌, ℕ, List, length, false, subst, arith}
use Rattle.http_frames.specs.HeadEnd.{IsFirstEnd, ends_at}
use Rattle.http_serve.proofs.Streaming.{head_found, head_endless}
use Rattle.http_serve.proofs.receiving.receive_head.Goals as goal

pub returns-in-Some-clause-found : goal.returns-in-Some-clause-found
returns-in-Some-clause-found g c =
    head_found _ _ c.in-Some.head (subst (λ (b : List ℕ). IsFirstEnd b c.in-Some.head) c.as_slice.ensures.value c.in-Some.ensures.found)

pub returns-in-Some-head_end-clause-found : goal.returns-in-Some-head_end-clause-found
returns-in-Some-head_end-clause-found g c =
    head_found _ _ c.in-Some-head_end.head (subst (λ (b : List ℕ). IsFirstEnd b c.in-Some-head_end.head) c.as_slice-2.ensures.value c.in-Some-head_end.ensures.found)

pub returns-in-None-clause-found : goal.returns-in-None-clause-found
returns-in-None-clause-found g c =
    head_endless _ _ (omega (arith, c.loop-waiting-test.false, c.len.ensures)) (subst (λ (b : List ℕ). (m : ℕ) → m ≤ length b → ends_at b m ≡ false) c.as_slice-2.ensures.value c.in-None.ensures.absent)
