-- What stores say over several calls.
use Rattle.std.proofs.Common.{ℕ, List, arith, refl}
use Rattle.chunk_store.specs.Said.{Said, KeepsOf, AskedOnce, alone}

-- what wasn't asked says what it said
pub keeps_itself : (s : Said) (q : List ℕ) → KeepsOf s s q
keeps_itself s q = record { denied = λ h. h; shown = λ b h. h; longer = λ n h. h; taken = λ b h. h; shown_by = λ k b h. h; longer_by = λ k n h. h }

pub keeps_on : (r s t : Said) (q : List ℕ) → KeepsOf r s q → KeepsOf s t q → KeepsOf r t q
keeps_on r s t q first then = record {
  denied = λ h. then.denied (first.denied h);
  shown = λ b h. then.shown b (first.shown b h);
  longer = λ n h. then.longer n (first.longer n h);
  taken = λ b h. then.taken b (first.taken b h);
  shown_by = λ k b h. then.shown_by k b (first.shown_by k b h);
  longer_by = λ k n h. then.longer_by k n (first.longer_by k n h);
}

-- a store that is no group keeps what it has said by a number too
pub keeps_alone : (s t : Said) (q : List ℕ) → (s.denied q → t.denied q) → ((b : List ℕ) → s.shown q b → t.shown q b) → ((n : ℕ) → s.longer q n → t.longer q n) → ((b : List ℕ) → s.taken q b → t.taken q b) → KeepsOf (alone s) (alone t) q
keeps_alone s t q denied shown longer taken = record {
  denied = denied;
  shown = shown;
  longer = longer;
  taken = taken;
  shown_by = λ k b h. (h.0, shown b h.1);
  longer_by = λ k n h. (h.0, longer n h.1);
}

-- and was asked as often
pub asked_no_more : (asked : List ℕ → ℕ) (id : List ℕ) → AskedOnce asked asked id
asked_no_more asked id = record { this = omega arith; no_less = omega arith; others = λ q apart. refl }
