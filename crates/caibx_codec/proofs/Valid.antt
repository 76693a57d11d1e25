-- Entries without a fault are chunks.
use Rattle.std.proofs.Common.{◌≡◌, ℕ, ◌+◌, ◌<◌, ◌≤◌, List, [], ◌∷◌, None, arith}
use Rattle.std.proofs.lemmas.Bool.Decides.{nat_tests}
use Rattle.caibx_codec.specs.Judge.{entry_fault}
use Rattle.caibx_codec.specs.Listing.{AreChunks}

-- the tests that passed at the first entry, and no fault at the others
first_passed : (greatest k start : ℕ) (e : ℕ × List ℕ) (es : List (ℕ × List ℕ)) → entry_fault greatest k start (e ∷ es) ≡ None → (start < e.0) × (e.0 ≤ start + greatest) × (entry_fault greatest (k + 1) e.0 es ≡ None)
first_passed greatest k start e es h = grind (arith, nat_tests)

pub chunks_of : (greatest k start : ℕ) (es : List (ℕ × List ℕ)) → entry_fault greatest k start es ≡ None → AreChunks greatest start es
chunks_of greatest k start [] h = tt
chunks_of greatest k start (e ∷ es) h =
    let passed = first_passed greatest k start e es h in
    (passed.0, passed.1, chunks_of greatest (k + 1) e.0 es passed.2)
