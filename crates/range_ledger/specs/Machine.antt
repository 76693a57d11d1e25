-- The core machine of an extraction: which steps settle, read and write the entries of an extent, whichever worker
-- makes each.
use Rattle.std.specs.Prelude.{◌≡◌, ℕ, ◌==◌, ◌||◌, Bool, true, false, List, [], ◌∷◌, ◌++◌, length}
use Rattle.caibx_codec.specs.Listing.{Listing, Rules, size_of}
use Rattle.range_ledger.specs.Extents.{Extent, IsChunkOf, IsIn, IsRightIn, length_in, put_in_extent, slice_in, whole}

-- the bytes, the settled entries, and the entries to which a write failed
pub record State : Type 0 where
  pub bytes : List ℕ
  pub settled : ℕ → Bool
  pub torn : ℕ → Bool

-- what may happen to an entry
pub data Event : Type 0 where
  -- a range was found to be right
  Settle : (i : ℕ) → Event
  -- the range of a settled entry was read
  Read : (i : ℕ) (reply : List ℕ) → Event
  -- a chunk was written to the range of its entry
  Put : (i : ℕ) (b : List ℕ) → Event
  -- a settled entry was left as it is
  Skip : (i : ℕ) → Event
  -- a write failed, and the range holds any bytes
  Torn : (i : ℕ) (b : List ℕ) → Event

-- nothing is settled yet
abbrev pub begin : List ℕ → State
begin base = record { bytes = base; settled = λ _. false; torn = λ _. false }

-- a set of entries with one more
abbrev pub with_entry : (ℕ → Bool) → ℕ → ℕ → Bool
with_entry set i j = (j == i) || set j

-- where an event is allowed
abbrev pub Allowed : Extent → State → Event → Type 0
Allowed x s (Settle i) = IsIn x i × IsRightIn x s.bytes i
Allowed x s (Read i reply) = IsIn x i × (s.settled i ≡ true) × (reply ≡ slice_in x s.bytes i)
Allowed x s (Put i b) = IsIn x i × (s.settled i ≡ false) × IsChunkOf x i b
Allowed x s (Skip i) = IsIn x i × (s.settled i ≡ true)
Allowed x s (Torn i b) = IsIn x i × (s.settled i ≡ false) × (length b ≡ size_of x.listing i)

-- the state after an event
abbrev pub after : Extent → State → Event → State
after x s (Settle i) = record { bytes = s.bytes; settled = with_entry s.settled i; torn = s.torn }
after x s (Read i reply) = s
after x s (Put i b) = record { bytes = put_in_extent x i b s.bytes; settled = with_entry s.settled i; torn = s.torn }
after x s (Skip i) = s
after x s (Torn i b) = record { bytes = put_in_extent x i b s.bytes; settled = s.settled; torn = with_entry s.torn i }

-- each event is allowed where it comes
abbrev pub IsRun : Extent → State → List Event → Type 0
IsRun x s [] = Unit {0}
IsRun x s (e ∷ es) = Allowed x s e × IsRun x (after x s e) es

-- the state after all of them
abbrev pub run : Extent → State → List Event → State
run x s [] = s
run x s (e ∷ es) = run x (after x s e) es

-- settled entries are right, and an entry that is neither settled nor torn has the base's bytes
pub record Good (x : Extent) (base : List ℕ) (s : State) : Type 0 where
  pub size : length s.bytes ≡ length_in x
  pub right : (i : ℕ) → IsIn x i → s.settled i ≡ true → IsRightIn x s.bytes i
  pub untouched : (i : ℕ) → IsIn x i → s.settled i ≡ false → s.torn i ≡ false
      → slice_in x s.bytes i ≡ slice_in x base i

-- a run over all entries of an index, from bytes as many as it lists
pub record IsRunOf (l : Listing) (base : List ℕ) (es : List Event) : Type 0 where
  pub valid : Rules l
  pub size : length base ≡ length_in (whole l)
  pub allowed : IsRun (whole l) (begin base) es

-- the state after it
abbrev pub state_after : Listing → List ℕ → List Event → State
state_after l base es = run (whole l) (begin base) es

-- an entry that is settled after the first events stays settled, and its bytes stay, whatever comes later
pub record StaysSettled (l : Listing) (base : List ℕ) (es later : List Event) (i : ℕ) : Type 0 where
  pub settled : (state_after l base (es ++ later)).settled i ≡ true
  pub bytes : slice_in (whole l) (state_after l base (es ++ later)).bytes i
      ≡ slice_in (whole l) (state_after l base es).bytes i

-- events lead from these bytes and settled entries to those, whatever was torn before
pub record LeadsTo (x : Extent) (es : List Event) (t0 : List ℕ) (s0 : ℕ → Bool) (t1 : List ℕ) (s1 : ℕ → Bool) :
    Type 0 where
  pub allowed : (torn : ℕ → Bool) → IsRun x (record { bytes = t0; settled = s0; torn = torn }) es
  pub bytes : (torn : ℕ → Bool) → (run x (record { bytes = t0; settled = s0; torn = torn }) es).bytes ≡ t1
  pub settled : (torn : ℕ → Bool) (i : ℕ) → IsIn x i
      → (run x (record { bytes = t0; settled = s0; torn = torn }) es).settled i ≡ s1 i
