-- What a reader and its slice stand for, after more bytes and at the end.
use Rattle.std.proofs.Common.{◌≡◌, ℕ, ◌≤◌, Bool, cond, List, ◌++◌, length, take, Option, None, Result, Ok, Err, sym, ap, subst, ◌∙◌}
use Rattle.std.specs.Prelude.{IfOk}
use Rattle.http_frames.specs.declared.fault.WireFault.{WireFault}
use Rattle.http_frames.specs.declared.fault.WireFault.TheVariants as faults
use Rattle.http_frames.specs.declared.body.BodyKind.{BodyKind}
use Rattle.http_frames.specs.Body.{Reading, reads_body, body_start, may_end, body_in, ◌>>=◌}
use Rattle.http_frames.specs.Seen.{ReaderKept, reading_seen, standing}
use Rattle.http_frames.specs.Standing.{StandsFor}
use Rattle.http_frames.proofs.Runs.{reads-append}

-- a reader without a fault
pub unhurt : (P : ReaderKept → Type 0) (fault : Option WireFault) (h : ReaderKept) (now : Result ReaderKept WireFault) → standing fault h ≡ now → fault ≡ None → P h → IfOk now P
unhurt P fault h now is none p =
    let ok : Ok h ≡ now = ap (λ f. standing f h) (sym none) ∙ is in
    subst (λ r. IfOk r P) ok p

more_read : (k : BodyKind) (b : List ℕ) (h : ReaderKept) (out piece : List ℕ) (after : List ℕ) (a : Result Reading WireFault) → length after ≡ length out → StandsFor k b h out → reads_body (length out) (reading_seen h out) piece ≡ a
    → reads_body (length after) (body_start k) (b ++ piece) ≡ a
more_read k b h out piece after a room stands is =
    ap (λ n. reads_body n (body_start k) (b ++ piece)) room ∙ reads-append (length out) (body_start k) b piece ∙ ap (λ x. x >>= λ s. reads_body (length out) s piece) stands.reads ∙ is

pub stands_on : (k : BodyKind) (b : List ℕ) (h : ReaderKept) (out piece : List ℕ) (new : ReaderKept) (after : List ℕ) → length after ≡ length out → new.filled ≤ length after → StandsFor k b h out → reads_body (length out) (reading_seen h out) piece ≡ Ok (reading_seen new after)
    → StandsFor k (b ++ piece) new after
stands_on k b h out piece new after room inside stands is = record {
  inside = inside;
  reads = more_read k b h out piece after _ room stands is;
}

pub fault_met : (k : BodyKind) (b : List ℕ) (h : ReaderKept) (out piece : List ℕ) (after : List ℕ) (f : WireFault) → length after ≡ length out → StandsFor k b h out → reads_body (length out) (reading_seen h out) piece ≡ Err f
    → reads_body (length after) (body_start k) (b ++ piece) ≡ Err f
fault_met k b h out piece after f room stands is = more_read k b h out piece after _ room stands is

pub ended : (k : BodyKind) (b : List ℕ) (h : ReaderKept) (out : List ℕ) (t : Bool) → StandsFor k b h out → may_end h.next ≡ t → body_in (length out) k b ≡ cond t (Ok (take h.filled out)) (Err faults.CutShort)
unfolding body_in
ended k b h out t stands is =
    ap (λ a. a >>= λ r. cond (may_end r.next) (Ok r.body) (Err faults.CutShort)) stands.reads
    ∙ ap (λ x. cond x (Ok (take h.filled out)) (Err faults.CutShort)) is

pub fault_stays : (room : ℕ) (k : BodyKind) (b c : List ℕ) (f : WireFault) → reads_body room (body_start k) b ≡ Err f → reads_body room (body_start k) (b ++ c) ≡ Err f
fault_stays room k b c f is =
    reads-append room (body_start k) b c ∙ ap (λ a. a >>= λ s. reads_body room s c) is
