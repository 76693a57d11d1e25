-- The chunks of an image as entries: where each ends, and its digest.
use Rattle.std.specs.Prelude.{◌≡◌, ℕ, ◌+◌, ◌-◌, ◌<◌, ◌≤◌, List, [], ◌∷◌, length, drop, slice_range, Option}
use Rattle.std.specs.Prelude.{IfSome}
use Rattle.caibx_fields.specs.Limits.{item_limit}
use Rattle.chunk_ends.specs.Cuts.{IsCut}
use Rattle.buzhash_cut.specs.Image.{HasTooManyCuts}
use Rattle.chunk_ends.specs.Sizes.{Sizes}
use Rattle.chunk_store.specs.Digests.{digest_of}
use Rattle.chunk_store.specs.declared.id.DigestKind.{DigestKind}
use Rattle.dsy_base.specs.Bytes.{Held}

-- the entry is that of the image's chunk that begins at `start`
pub record IsCutEntry (kind : DigestKind) (s : Sizes) (image : List ℕ) (start : ℕ) (e : ℕ × List ℕ) : Type 0 where
  pub after : start < e.0
  pub cut : IsCut s (drop start image) (e.0 - start)
  pub named : e.1 ≡ digest_of kind (slice_range image start e.0)

-- an entry's end is after `start`, by no more than the greatest size of a chunk
abbrev pub IsStep : ℕ → ℕ → ℕ × List ℕ → Type 0
IsStep greatest start e = (start < e.0) × (e.0 ≤ start + greatest)

-- each entry is such from where the one before it ends, the first from `start`, and the last ends at `end`
abbrev pub AreLinked : (ℕ → ℕ × List ℕ → Type 0) → ℕ → List (ℕ × List ℕ) → ℕ → Type 0
AreLinked P start [] end = start ≡ end
AreLinked P start (e ∷ es) end = P start e × AreLinked P e.0 es end

-- what cutting from `start` to `end` gives: the entries of the chunks of the bytes, where these are told
pub record AreEntries (kind : DigestKind) (s : Sizes) (bytes : Option (List ℕ)) (start : ℕ) (es : List (ℕ × List ℕ))
    (end : ℕ) : Type 0
  where
    pub steps : AreLinked (IsStep s.greatest) start es end
    pub chunks : IfSome bytes (λ t. AreLinked (IsCutEntry kind s t) start es end)

-- what a worker leaves that cut from `start` on, however far it came
pub record IsEntryRun (kind : DigestKind) (s : Sizes) (h : Held) (start : ℕ) (es : List (ℕ × List ℕ)) : Type 0 where
  pub end : ℕ
  pub inside : end ≤ h.size
  pub entries : AreEntries kind s h.bytes start es end

-- the entries of all chunks of the image
pub record AreAll (kind : DigestKind) (s : Sizes) (h : Held) (es : List (ℕ × List ℕ)) : Type 0 where
  pub few : length es ≤ item_limit
  pub entries : AreEntries kind s h.bytes 0 es h.size
  pub sized : IfSome h.bytes (λ t. length t ≡ h.size)

-- the bytes are told, and are cut into more chunks than an index may list; or they aren't told
abbrev pub AreTooMany : Sizes → Held → Type 0
AreTooMany s h = IfSome h.bytes (HasTooManyCuts s)
