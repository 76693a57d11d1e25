-- A check that goes on: one chunk more, and the whole way.
use Rattle.std.proofs.Common.{◌≡◌, ℕ, ◌+◌, ◌<◌, ◌≤◌, List, length, Option, Some, None, IfSome, OnErr, OnOk, Result, Ok, Err, refl, sym, subst, ◌∙◌, arith, below_more}
use Rattle.caibx_codec.specs.Listing.{Listing, count_of, id_of, image_length, kind_of, size_of, slice_of}
use Rattle.caibx_codec.specs.Right.{IsRightAt}
use Rattle.chunk_store.specs.Digests.{digest_of}
use Rattle.dsy_base.specs.Bytes.{Held}
use Rattle.dsy_base.specs.Counts.{CountsFaults}
use Rattle.dsy_base.specs.declared.view.View.{Ghosts as ViewWords}
use Rattle.image_slices.specs.Ahead.{IsSlice}
use Rattle.image_check.specs.Checks.{AreRightBelow, IsFirstWrong}
use Rattle.image_check.specs.CheckProgress.{CheckEnds, ChecksOn, IsChecking, IsWrongAt}
use Rattle.image_check.specs.declared.check.CheckFault.{CheckFault}
use Rattle.image_check.specs.declared.check.CheckFault.TheVariants as check
use Rattle.image_check.specs.declared.checking.Checking.{Checking}

right_below : (l : Listing) (told : Option (List ℕ)) (i : ℕ) → IfSome told (λ t. IsRightAt t l i) → IfSome told (λ t. AreRightBelow t l i) → IfSome told (λ t. AreRightBelow t l (i + 1))
right_below l None i here before = tt
right_below l (Some t) i here before = below_more _ _ before here

-- a slice that was read ahead is right
pub slice_right : (l : Listing) (told : Option (List ℕ)) (i : ℕ) (b : List ℕ) → IsSlice l told i b → IfSome told (λ t. IsRightAt t l i)
slice_right l None i b slice = tt
slice_right l (Some t) i b slice = subst (λ (x : List ℕ). digest_of (kind_of l) x ≡ id_of l i) slice.is slice.named

-- chunk i is wrong, or couldn't be read, and those before it are right
pub check_stops : (l : Listing) (told : Option (List ℕ)) (i size : ℕ) (fault : CheckFault) → i < count_of l → size ≡ image_length l → IsWrongAt l i told fault → IfSome told (λ t. AreRightBelow t l i)
    → CheckEnds l told size (Err fault)
check_stops l told i size (check.Length n) inside is wrong before = absurd wrong
check_stops l told i size (check.Mismatch k got) inside is wrong before =
    subst (λ (j : ℕ). CheckEnds l told size (Err (check.Mismatch j got))) (sym wrong.0) (record { size_is = is; exactly = first told wrong.2 before; names = (inside, wrong.1) }) where
      first : (o : Option (List ℕ)) → IfSome o (λ t. got.0 ≡ digest_of (kind_of l) (slice_of l t i)) → IfSome o (λ t. AreRightBelow t l i) → IfSome o (λ t. IsFirstWrong t l i got.0)
      first None named before = tt
      first (Some t) named before = record { listed = inside; before = before; named = named; wrong = wrong.1 }
check_stops l told i size check.ImageFault inside is wrong before = record { size_is = is; exactly = free told; names = tt } where
  free : (o : Option (List ℕ)) → IfSome o (λ t. Unit {0})
  free None = tt
  free (Some t) = tt
check_stops l told i size check.Memory inside is wrong before = record { size_is = is; exactly = free told; names = tt } where
  free : (o : Option (List ℕ)) → IfSome o (λ t. Unit {0})
  free None = tt
  free (Some t) = tt

module _ {V : Type 0} (view : ViewWords V) (l : Listing) where
  pub checks_none : (w : Checking V) → IsChecking view l w → ChecksOn view l w w (Ok tt)
  checks_none w is = record { next = is; ends = tt; kept = refl; faults = record { never_falls = omega arith; cause = λ e. absurd (cc); done = refl; unfailed = λ e. refl } }

  pub checks_on : (a b c : Checking V) (r : Result Unit CheckFault) → ChecksOn view l a b (Ok tt) → ChecksOn view l b c r → ChecksOn view l a c r
  checks_on a b c r one two = record {
    next = two.next;
    ends = subst (λ (h : Held). OnErr r (CheckEnds l h.bytes h.size r)) one.kept two.ends;
    kept = two.kept ∙ one.kept;
    faults = subst (λ (n : ℕ). CountsFaults check.ImageFault check.Memory n (view.faults c.view) r) one.faults.done two.faults;
  }

  -- one chunk more is right
  pub checking_next : (a b : Checking V) → IsChecking view l a → a.at < count_of l → b.at ≡ a.at + 1 → view.held b.view ≡ view.held a.view → length b.buf.items ≡ length a.buf.items
      → IfSome (view.held a.view).bytes (λ t. IsRightAt t l a.at) → IsChecking view l b
  checking_next a b was less at held long right = record {
    size = subst (λ (h : Held). image_length l ≡ h.size) (sym held) was.size;
    at = omega (arith, at, less);
    room = λ i listed. omega (arith, was.room i listed, long);
    before = subst (λ (h : Held). IfSome h.bytes (λ t. AreRightBelow t l b.at)) (sym held)
        (subst (λ (k : ℕ). IfSome (view.held a.view).bytes (λ t. AreRightBelow t l k)) (sym at) (right_below l (view.held a.view).bytes a.at right was.before));
  }

  -- it went the whole way
  pub checking_all : (a b : Checking V) (r : Result Unit CheckFault) → (view.held a.view).size ≡ image_length l → ChecksOn view l a b r → OnOk r (count_of l ≤ b.at)
      → CheckEnds l (view.held a.view).bytes (view.held a.view).size r
  checking_all a b (Ok u) is on past = let at : b.at ≡ count_of l = omega (arith, past, on.next.at) in record {
    size_is = is;
    exactly = subst (λ (k : ℕ). IfSome (view.held a.view).bytes (λ t. AreRightBelow t l k)) at
        (subst (λ (h : Held). IfSome h.bytes (λ t. AreRightBelow t l b.at)) on.kept on.next.before);
    names = tt;
  }
  checking_all a b (Err e) is on past = on.ends
