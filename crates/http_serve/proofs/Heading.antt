-- How heads come, in the bytes that wait and those behind them.
use Rattle.std.proofs.Common.{◌≡◌, ℕ, zero, suc, ◌-◌, ◌<◌, ◌≤◌, List, [], ◌++◌, length, false, refl, ap, ◌∙◌, arith}
use Rattle.std.proofs.Math.ListN.{get_or-append}
use Rattle.std.proofs.lemmas.List.{length-append}
use Rattle.http_frames.specs.HeadEnd.{IsFirstEnd, ends_at, head_limit}
use Rattle.http_serve.specs.Requests.{EndsInHead, HasNoEnd}

-- what follows the first bytes changes nothing of where a head ends in them
pub ends_more : (b c : List ℕ) (n : ℕ) → n ≤ length b → ends_at (b ++ c) n ≡ ends_at b n
unfolding ends_at
ends_more b c zero le = refl
ends_more b c (suc n) le =
    rw (get_or-append b c 0 (suc n - 1) (omega arith), get_or-append b c 0 (suc n - 2) (omega arith), get_or-append b c 0 (suc n - 3) (omega arith)) refl

pub first_end_more : (b c : List ℕ) (n : ℕ) → IsFirstEnd b n → IsFirstEnd (b ++ c) n
first_end_more b c n is = record {
  inside = omega (arith, length-append b c, is.inside);
  ends = ends_more b c n is.inside ∙ is.ends;
  least = λ m lt. ends_more b c m (omega (arith, is.inside)) ∙ is.least m lt;
}

pub no_end_more : (b c : List ℕ) → head_limit ≤ length b → ((m : ℕ) → m ≤ length b → ends_at b m ≡ false) → HasNoEnd (b ++ c)
no_end_more b c full none = λ n inside near. let le : n ≤ length b = omega arith in ends_more b c n le ∙ none n le

pub cut_off : (b c : List ℕ) → length b < head_limit → ((m : ℕ) → m ≤ length b → ends_at b m ≡ false) → c ≡ [] → EndsInHead (b ++ c)
cut_off b c short none no_more =
    let size : length (b ++ c) ≡ length b = omega (arith, length-append b c, ap length no_more) in
    record {
      none = λ n inside near. let le : n ≤ length b = omega arith in ends_more b c n le ∙ none n le;
      short = omega arith;
    }
