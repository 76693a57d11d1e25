-- What workers cut of an image, the first one from 0 on and each other one from other places on.
use Rattle.std.specs.Prelude.{◌≡◌, ℕ, ◌≤◌, List, Option, [], length, All, IfOk, IfErr, IfSome, OnOk}
use Rattle.buzhash_cut.specs.Entries.{AreEntries, AreTooMany, IsEntryRun}
use Rattle.buzhash_cut.specs.Slicing.{IsWithin}
use Rattle.caibx_fields.specs.Limits.{item_limit}
use Rattle.chunk_ends.specs.Sizes.{Sizes}
use Rattle.chunk_store.specs.declared.id.DigestKind.{DigestKind}
use Rattle.buzhash_cut.specs.declared.image.CutFault.TheVariants as faults
use Rattle.buzhash_cut.specs.declared.run.Run.{Run}
use Rattle.buzhash_cut.specs.declared.slicer.Slicer.{Slicer}
use Rattle.buzhash_cut.specs.declared.worker.Worker.{Worker}
use Rattle.caibx_codec.specs.Seen.{pairs}
use Rattle.dsy_base.specs.Bytes.{Held}
use Rattle.dsy_base.specs.Counts.{CountsFaults}

-- the entries are those of the image's chunks from `start` to `end`, by the slicer's sizes and digest
abbrev pub EntriesBy : Slicer → Held → ℕ → List (ℕ × List ℕ) → ℕ → Type 0
EntriesBy c h start es end = AreEntries c.kind c.cutter.sizes h.bytes start es end

-- the slicer, if there is one, cuts by the sizes s, names by this digest, and has room for each chunk of an image of
-- `size` bytes
abbrev pub Slices : DigestKind → Sizes → ℕ → Option Slicer → Type 0
Slices kind s size o = IfSome o (λ c. (c.kind ≡ kind) × (c.cutter.sizes ≡ s) × IsWithin c size)

-- it has cut nothing, and its slicer, if it has one, cuts what its view holds
pub record IsReady {V : Type 0} (held : V → Held) (kind : DigestKind) (s : Sizes) (w : Worker V) : Type 0 where
  pub entries : w.entries.items ≡ []
  pub runs : w.runs.items ≡ []
  pub slices : Slices kind s (held w.view).size w.slicer

-- each run was cut from its start on
abbrev pub AreRuns : DigestKind → Sizes → Held → List Run → Type 0
AreRuns kind s h rs = All (λ r. IsEntryRun kind s h r.start (pairs r.entries.items)) rs

-- `held` and `failed` tell what a view holds and how often it has failed
module _ {V : Type 0} (held : V → Held) (failed : V → ℕ) (kind : DigestKind) (s : Sizes) (old new : Worker V) where
  -- a worker that has cut: its runs were cut, and its view holds what it held
  pub record HasCut : Type 0 where
    pub runs : AreRuns kind s (held old.view) new.runs.items
    pub kept : held new.view ≡ held old.view
    pub never_falls : failed old.view ≤ failed new.view

  -- the first worker after it has cut: its entries are those of the image from 0 to `end`
  pub record HasCutFirst : Type 0 where
    pub end : IfOk new.end (λ e. (e ≤ (held old.view).size)
        × AreEntries kind s (held old.view).bytes 0 (pairs new.entries.items) e)
    pub few : length (pairs new.entries.items) ≤ item_limit
    pub many : IfErr new.end (λ f. f ≡ faults.TooManyItems → AreTooMany s (held old.view))
    pub slices : OnOk new.end (Slices kind s (held old.view).size new.slicer)
    pub counts : CountsFaults faults.ImageFault faults.Memory (failed old.view) (failed new.view) new.end
