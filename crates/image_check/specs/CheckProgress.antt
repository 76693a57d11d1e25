-- What holding the chunks of an image against an index has come to. l lists the chunks, `told` are the image's bytes
-- where they are told.
use Rattle.std.specs.Prelude.{◌≡◌, ◌≢◌, ℕ, ◌<◌, ◌≤◌, IfErr, IfSome, List, OnErr, OnOk, Option, Result, length}
use Rattle.caibx_codec.specs.Listing.{Listing, count_of, id_of, image_length, kind_of, size_of, slice_of}
use Rattle.chunk_store.specs.Digests.{digest_of}
use Rattle.dsy_base.specs.Counts.{CountsFaults}
use Rattle.dsy_base.specs.declared.view.View.{Ghosts as ViewWords}
use Rattle.image_check.specs.Checks.{AreRightBelow, NamesEntry, TellsChunks, TellsSize}
use Rattle.image_check.specs.declared.check.CheckFault.{CheckFault}
use Rattle.image_check.specs.declared.check.CheckFault.TheVariants as check
use Rattle.image_check.specs.declared.checking.Checking.{Checking}

-- why checking chunk i ended early
abbrev pub IsWrongAt : Listing → ℕ → Option (List ℕ) → CheckFault → Type 0
IsWrongAt l i told (check.Mismatch k got) =
    (k ≡ i) × (got.0 ≢ id_of l i) × IfSome told (λ t. got.0 ≡ digest_of (kind_of l) (slice_of l t i))
IsWrongAt l i told (check.Length n) = ⊥
IsWrongAt l i told check.ImageFault = Unit {0}
IsWrongAt l i told check.Memory = Unit {0}

-- the check of an image of this size ended with this answer
pub record CheckEnds (l : Listing) (told : Option (List ℕ)) (size : ℕ) (result : Result Unit CheckFault) : Type 0 where
  pub size_is : TellsSize l size result
  pub exactly : IfSome told (λ t. TellsChunks l t result)
  pub names : IfErr result (NamesEntry l)

module _ {V : Type 0} (view : ViewWords V) (l : Listing) where
  -- the chunks before `at` are right, and it can go on
  pub record IsChecking (w : Checking V) : Type 0 where
    pub size : image_length l ≡ (view.held w.view).size
    pub at : w.at ≤ count_of l
    pub room : (i : ℕ) → i < count_of l → size_of l i ≤ length w.buf.items
    pub before : IfSome (view.held w.view).bytes (λ t. AreRightBelow t l w.at)

  -- it went on, and ended with this result
  pub record ChecksOn (old new : Checking V) (result : Result Unit CheckFault) : Type 0 where
    pub next : OnOk result (IsChecking new)
    pub ends : OnErr result (CheckEnds l (view.held old.view).bytes (view.held old.view).size result)
    pub kept : view.held new.view ≡ view.held old.view
    pub faults : CountsFaults check.ImageFault check.Memory (view.faults old.view) (view.faults new.view) result
