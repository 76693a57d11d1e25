-- A head says one thing.
use Rattle.std.proofs.Common.{◌≡◌, ℕ, zero, suc, ◌==◌, ◌<◌, Bool, true, false, List, take, Ok, Err, refl, sym, ◌∙◌, ap}
use Rattle.std.proofs.Common.{subst, arith}
use Rattle.std.specs.Prelude.{Result}
use Rattle.std.proofs.lemmas.Bool.Decides.{nat_tests}
use Rattle.http_read.specs.Replies.{SaysHead}
use Rattle.http_frames.specs.HeadEnd.{IsFirstEnd}
use Rattle.http_frames.specs.declared.body.BodyKind.{BodyKind}
use Rattle.http_frames.specs.declared.body.BodyKind.TheVariants as kind
use Rattle.http_frames.specs.declared.fault.WireFault.{WireFault}
use Rattle.http_frames.specs.declared.fault.WireFault.TheVariants as faults
use Rattle.http_wire.specs.Reply.{IsReplyHead}
use Rattle.http_wire.specs.declared.reply.Method.{Method}
use Rattle.http_wire.specs.declared.reply.ReplyHead.{ReplyHead}
use Rattle.httparse.specs.Grammar.{ResponseHead}

both : (b : Bool) (P : Type 0) → (b ≡ true → P) → (b ≡ false → P) → P
both true P p q = p refl
both false P p q = q refl

-- ---- what a head says as numbers, and back

abbrev kind_number : BodyKind → ℕ
kind_number kind.None = 0
kind_number (kind.Length n) = 1
kind_number kind.Chunked = 2
kind_number kind.ToEnd = 3

abbrev kind_size : BodyKind → ℕ
kind_size kind.None = 0
kind_size (kind.Length n) = n
kind_size kind.Chunked = 0
kind_size kind.ToEnd = 0

abbrev kind_of : ℕ → ℕ → BodyKind
kind_of zero n = kind.None
kind_of (suc zero) n = kind.Length n
kind_of (suc (suc zero)) n = kind.Chunked
kind_of (suc (suc (suc k))) n = kind.ToEnd

kind_again : (k : BodyKind) → kind_of (kind_number k) (kind_size k) ≡ k
kind_again kind.None = refl
kind_again (kind.Length n) = refl
kind_again kind.Chunked = refl
kind_again kind.ToEnd = refl

abbrev fault_number : WireFault → ℕ
fault_number faults.HeadTooLong = 0
fault_number faults.BadHead = 1
fault_number faults.Framing = 2
fault_number faults.BadChunk = 3
fault_number faults.BodyTooLong = 4
fault_number faults.CutShort = 5

abbrev fault_of : ℕ → WireFault
fault_of zero = faults.HeadTooLong
fault_of (suc zero) = faults.BadHead
fault_of (suc (suc zero)) = faults.Framing
fault_of (suc (suc (suc zero))) = faults.BadChunk
fault_of (suc (suc (suc (suc zero)))) = faults.BodyTooLong
fault_of (suc (suc (suc (suc (suc k))))) = faults.CutShort

fault_again : (f : WireFault) → fault_of (fault_number f) ≡ f
fault_again faults.HeadTooLong = refl
fault_again faults.BadHead = refl
fault_again faults.Framing = refl
fault_again faults.BadChunk = refl
fault_again faults.BodyTooLong = refl
fault_again faults.CutShort = refl

abbrev tag_in : Result ReplyHead WireFault → ℕ
tag_in (Ok h) = 0
tag_in (Err f) = 1

abbrev status_in : Result ReplyHead WireFault → ℕ
status_in (Ok h) = h.status
status_in (Err f) = fault_number f

abbrev kind_in : Result ReplyHead WireFault → ℕ
kind_in (Ok h) = kind_number h.body
kind_in (Err f) = 0

abbrev size_in : Result ReplyHead WireFault → ℕ
size_in (Ok h) = kind_size h.body
size_in (Err f) = 0

abbrev says_of : ℕ → ℕ → ℕ → ℕ → Result ReplyHead WireFault
says_of zero status k n = Ok (record { status = status; body = kind_of k n })
says_of (suc t) status k n = Err (fault_of status)

says_again : (r : Result ReplyHead WireFault) → says_of (tag_in r) (status_in r) (kind_in r) (size_in r) ≡ r
says_again (Ok h) = ap (λ k. Ok (record { status = h.status; body = k })) (kind_again h.body)
says_again (Err f) = ap (λ g. Err g) (fault_again f)

-- ---- what can't differ is the same

differs : (a b : ℕ) → (a == b) ≡ false → ¬ (a ≡ b)
differs a b test same = grind (arith, nat_tests)

same_numbers : (a b : ℕ) → ¬ (¬ (a ≡ b)) → a ≡ b
same_numbers a b stays =
    both (a == b) (a ≡ b) (λ test. grind (arith, nat_tests)) (λ test. absurd (stays (differs a b test)))

same_under : (f : Result ReplyHead WireFault → ℕ) (r s : Result ReplyHead WireFault) → ¬ (¬ (r ≡ s)) → f r ≡ f s
same_under f r s stays = same_numbers (f r) (f s) (λ apart. stays (λ same. apart (ap f same)))

same_says : (r s : Result ReplyHead WireFault) → ¬ (¬ (r ≡ s)) → r ≡ s
same_says r s stays =
    sym (says_again r)
    ∙ ap (λ t. says_of t (status_in r) (kind_in r) (size_in r)) (same_under tag_in r s stays)
    ∙ ap (λ n. says_of (tag_in s) n (kind_in r) (size_in r)) (same_under status_in r s stays)
    ∙ ap (λ k. says_of (tag_in s) (status_in s) k (size_in r)) (same_under kind_in r s stays)
    ∙ ap (λ n. says_of (tag_in s) (status_in s) (kind_in s) n) (same_under size_in r s stays)
    ∙ says_again s

-- ---- one head

no_lower : (b : List ℕ) (n k : ℕ) → IsFirstEnd b n → IsFirstEnd b k → ¬ (n < k)
no_lower b n k first other lt = let clash : true ≡ false = sym first.ends ∙ other.least n lt in absurd (cc (clash))

one_end : (b : List ℕ) (n k : ℕ) → IsFirstEnd b n → IsFirstEnd b k → n ≡ k
one_end b n k first other =
    let lower = no_lower b n k first other in
    let higher = no_lower b k n other first in
    omega (arith, lower, higher)

one_says : (m : Method) (b : List ℕ) (n : ℕ) (r s : Result ReplyHead WireFault) → SaysHead m b n r → SaysHead m b n s → r ≡ s
one_says m b n r s first other =
    same_says r s (λ apart.
    let none : (h : ResponseHead) → ¬ (IsReplyHead (take n b) h) = λ h is. apart (first.found h is ∙ sym (other.found h is)) in
    apart (first.absent none ∙ sym (other.absent none)))

pub one_thing : (m : Method) (b : List ℕ) (n k : ℕ) (r s : Result ReplyHead WireFault) → SaysHead m b n r → SaysHead m b k s
    → (n ≡ k) × (r ≡ s)
one_thing m b n k r s first other =
    let size = one_end b n k first.ends other.ends in
    (size, one_says m b n r s first (subst (λ i. SaysHead m b i s) (sym size) other))
