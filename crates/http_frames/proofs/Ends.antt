-- No head ends where it begins.
use Rattle.std.proofs.Common.{◌≡◌, ℕ, zero, suc, ◌≤◌, List, false, refl, arith}
use Rattle.http_frames.specs.HeadEnd.{ends_at}

pub none_at_front : (b : List ℕ) (m : ℕ) → m ≤ 0 → ends_at b m ≡ false
unfolding ends_at
none_at_front b zero le = refl
none_at_front b (suc m) le = absurd (omega arith)
