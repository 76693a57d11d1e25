-- How the commands end, by the steps up to the last one that is done.
use Rattle.std.proofs.Common.{ℕ, List, [], ◌∷◌, Option, Result, Ok, Err, inl, inr, refl}
use Rattle.buzhash_cut.specs.Sizes.{Sizes}
use Rattle.caibx_codec.specs.Listing.{Listing}
use Rattle.chunk_store.specs.declared.id.DigestKind.{DigestKind}
use Rattle.command_outcome.specs.declared.outcome.Outcome.{Outcome}
use Rattle.command_indexes.specs.Gets.{IndexGot}
use Rattle.command_steps.specs.InputFiles.{ImageOpened}
use Rattle.command_steps.specs.Sources.{storage}
use Rattle.command_steps.specs.TakenStores.{SourceTaken}
use Rattle.command_words.specs.declared.command.Location.{Location}
use Rattle.command_worlds.specs.Worlds.{world}
use Rattle.dsy_base.specs.Disk.{Disk, Output}
use Rattle.dsy_base.specs.Links.{DialState}
use Rattle.dsy_base.specs.Maps.{Map}
use Rattle.image_commands.specs.Chop.{ChopEnds, ImageChopped}
use Rattle.image_commands.specs.Make.{ImageStored, IndexWritten, MakeEnds, SizesJudged, StoredInto}

pub chop_ends : (store : Location) (index image : List ℕ) (l : Listing) (told : Option (List ℕ)) (held : Option (Map (List ℕ))) (i k j : DialState) (p : Output) (a b c d e : Disk) (r : Result Unit Outcome)
    → IndexGot index (storage a i) (Ok l) (storage b k) → ImageOpened image b (Ok told) c → SourceTaken (image ∷ []) store c (Ok held) d → ImageChopped l image told store held (storage d k) r (storage e j)
    → ChopEnds store index image (world a i p) r (world e j p)
chop_ends store index image l told held i k j p a b c d e (Ok u) read opened taken chopped =
    record { disk = b; dial = k; out = p; gave = l; did = (read, refl); then = record { disk = c; dial = k; out = p; gave = told; did = (opened, refl, refl); then = record { disk = d; dial = k; out = p; gave = held; did = (taken, refl, refl); then = (chopped, refl) } } }
chop_ends store index image l told held i k j p a b c d e (Err o) read opened taken chopped =
    inr (record { disk = b; dial = k; out = p; gave = l; did = (read, refl); then = inr (record { disk = c; dial = k; out = p; gave = told; did = (opened, refl, refl); then = inr (record { disk = d; dial = k; out = p; gave = held; did = (taken, refl, refl); then = (chopped, refl) }) }) })

-- the store was taken, and storing the image in it ended with r
pub stored_into : (store : Location) (kind : DigestKind) (s : Sizes) (image : List ℕ) (told : Option (List ℕ)) (held : Option (Map (List ℕ))) (k j : DialState) (p : Output) (b c d : Disk) (r : Result (List ℕ) Outcome)
    → SourceTaken (image ∷ []) store b (Ok held) c → ImageStored kind s image told store held (storage c k) r (storage d j) → StoredInto store kind s image told (world b k p) r (world d j p)
stored_into store kind s image told held k j p b c d (Ok bytes) taken stored = record { disk = c; dial = k; out = p; gave = held; did = (taken, refl, refl); then = (stored, refl) }
stored_into store kind s image told held k j p b c d (Err o) taken stored = inr (record { disk = c; dial = k; out = p; gave = held; did = (taken, refl, refl); then = (stored, refl) })

-- the image was opened. Storing it ended the command, or gave the bytes of its index
module _ (store : Location) (kind : DigestKind) (sizes : List ℕ) (index image : List ℕ) (s : Sizes) (told : Option (List ℕ)) (k j : DialState) (p : Output) (a b d : Disk) (judged : SizesJudged sizes (Ok s)) (opened : ImageOpened image a (Ok told) b) where
  pub make_fails : (o : Outcome) → StoredInto store kind s image told (world b k p) (Err o) (world d j p) → MakeEnds store kind sizes index image (world a k p) (Err o) (world d j p)
  make_fails o h =
      inr (record {
        disk = a;
        dial = k;
        out = p;
        gave = s;
        did = (judged, refl);
        then = inr (record {
          disk = b;
          dial = k;
          out = p;
          gave = told;
          did = (opened, refl, refl);
          then = elim h [
            | inl refused ↦ inl refused
            | inr m ↦ inr (record { disk = m.disk; dial = m.dial; out = m.out; gave = m.gave; did = m.did; then = inl m.then })
          ];
        });
      })

  pub make_ends : (bytes : List ℕ) (e : Disk) (r : Result Unit Outcome) → StoredInto store kind s image told (world b k p) (Ok bytes) (world d j p) → IndexWritten index bytes d r e → MakeEnds store kind sizes index image (world a k p) r (world e j p)
  make_ends bytes e (Ok u) h written =
      record { disk = a; dial = k; out = p; gave = s; did = (judged, refl); then = record { disk = b; dial = k; out = p; gave = told; did = (opened, refl, refl); then = record { disk = h.disk; dial = h.dial; out = h.out; gave = h.gave; did = h.did; then = record { disk = d; dial = j; out = p; gave = bytes; did = h.then; then = (written, refl, refl) } } } }
  make_ends bytes e (Err o) h written =
      inr (record { disk = a; dial = k; out = p; gave = s; did = (judged, refl); then = inr (record { disk = b; dial = k; out = p; gave = told; did = (opened, refl, refl); then = inr (record { disk = h.disk; dial = h.dial; out = h.out; gave = h.gave; did = h.did; then = inr (record { disk = d; dial = j; out = p; gave = bytes; did = h.then; then = (written, refl, refl) }) }) }) })
