-- Ids as 64 hexadecimal digits.
use Rattle.std.proofs.Common.{◌≡◌, ℕ, List, length, Ok, Err, true, false, sym, ap, subst, refl, ◌∙◌}
use Rattle.std.specs.Prelude.{IsOk}
use Rattle.std.specs.List.{AllPass}
use Rattle.std.specs.Result.{result_unwrap_or}
use Rattle.chunk_store.specs.Digests.{IsId}
use Rattle.hex.specs.Hex.{decode_sized, encode_lower, is_hex_digit}
use Rattle.hex.specs.declared.error.FromHexError.{FromHexError}
use Rattle.hex.proofs.HexLemmas.{IsOk-decode_sized, decode_sized-encode_lower}

-- what is an id has 64 digits
pub digits_from_id : (text bytes : List ℕ) → Ok bytes ≡ decode_sized text 32 → (length text ≡ 64) × AllPass is_hex_digit text
digits_from_id text bytes h = (IsOk-decode_sized text 32).0 (subst IsOk h refl)

-- 64 digits are no refusal
pub no_refusal : (text : List ℕ) (e : FromHexError) → Err e ≡ decode_sized text 32 → (length text ≡ 64) × AllPass is_hex_digit text → false ≡ true
no_refusal text e h digits = subst IsOk (sym h) ((IsOk-decode_sized text 32).1 digits)

-- the digits of an id are read as the id
pub id_again : (text bytes : List ℕ) → Ok bytes ≡ decode_sized text 32 → (id : List ℕ) → IsId id → text ≡ encode_lower id → bytes ≡ id
id_again text bytes h id is written =
    let read : decode_sized text 32 ≡ Ok id = ap (λ t. decode_sized t 32) written ∙ decode_sized-encode_lower id 32 is.size is.bytes in
    ap (λ r. result_unwrap_or r bytes) (h ∙ read)

pub id_not_refused : (text : List ℕ) (e : FromHexError) → Err e ≡ decode_sized text 32 → (id : List ℕ) → IsId id → text ≡ encode_lower id → ⊥
id_not_refused text e h id is written =
    let read : decode_sized text 32 ≡ Ok id = ap (λ t. decode_sized t 32) written ∙ decode_sized-encode_lower id 32 is.size is.bytes in
    let both : Err e ≡ Ok id = h ∙ read in
    cc
