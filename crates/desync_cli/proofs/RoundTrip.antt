-- What comes back where `make` and then `extract` are done.
use Rattle.std.proofs.Common.{◌≡◌, ◌⊎◌, ℕ, IsTrue, ap, not, List, Option, Some, None, IfSome, subst, sym, ◌∙◌, false, true}
use Rattle.buzhash_cut.specs.Image.{IsIndexOfImage}
use Rattle.buzhash_cut.specs.Right.{HasTwins}
use Rattle.buzhash_cut.specs.Sizes.{Sizes}
use Rattle.caibx_codec.specs.Listing.{Listing}
use Rattle.caibx_codec.specs.Right.{IsRight}
use Rattle.caibx_codec.specs.Spelling.{IsIndexFile}
use Rattle.chunk_store.specs.declared.id.DigestKind.{DigestKind}
use Rattle.command_indexes.proofs.Spelled.{spells_file}
use Rattle.command_indexes.specs.Places.{is_file}
use Rattle.command_indexes.specs.Spelled.{IndexSpells}
use Rattle.command_steps.specs.InputFiles.{IsListed}
use Rattle.command_steps.specs.Sources.{storage}
use Rattle.command_words.specs.Limits.{Fits}
use Rattle.command_worlds.specs.Worlds.{world}
use Rattle.command_words.specs.declared.command.Command.{Command}
use Rattle.command_words.specs.declared.command.Command.TheVariants as commands
use Rattle.desync_cli.specs.Commands.{Achieves, sure_types}
use Rattle.extract_command.specs.Extract.{IsExtracted}
use Rattle.image_commands.specs.Make.{IsMade}
use Rattle.desync_cli.specs.RoundTrip.{ComesBack, RoundTrip}
use Rattle.server_commands.specs.Serving.{Heard}
use Rattle.dsy_base.specs.Disk.{Disk, Output}
use Rattle.dsy_base.specs.Links.{DialState}
use Rattle.dsy_base.specs.Maps.{Map}
use Rattle.proxy_command.specs.ProxyServing.{look_types}

abbrev tells : Map (List ℕ) → Map (Map (List ℕ)) → Map ℕ → Map ℕ → Disk
tells files folders counts folder_counts = record { files = Some files; folders = Some folders; file_counts = counts; folder_counts = folder_counts }

module _ (one : (b : List ℕ) (l m : Listing) → IsIndexFile b l → IsIndexFile b m → l ≡ m)
    (law : (kind : DigestKind) (s : Sizes) (image t : List ℕ) (l : Listing) → IsIndexOfImage kind s image l → IsRight t l → (t ≡ image) ⊎ HasTwins t image l) where
  back : (before between after : Map (List ℕ)) (kind : DigestKind) (sizes index image out : List ℕ) (l : Listing) (Spelled : List ℕ → Listing → Type 0) → ((m : Listing) → Spelled index m → IsListed between index m) → IsMade before between kind sizes index image l → IsExtracted Spelled after index out → ComesBack before after image out
  back before between after kind sizes index image out l Spelled so m x =
      let listed = so x.listing x.listed in
      let read : Some listed.bytes ≡ Some m.file = sym listed.there ∙ m.written in
      let bytes : listed.bytes ≡ m.file = cc in
      let same : x.listing ≡ l = one m.file x.listing l (subst (λ b. IsIndexFile b x.listing) bytes listed.file) m.is_file in
      record {
        bytes = m.bytes;
        was = m.image_was;
        now = x.image;
        is = x.holds;
        listing = l;
        same = law kind _ m.bytes x.image l m.of_image (subst (λ l. IsRight x.image l) same x.right);
      }

  over : (x y : Heard) (first then : Command) (b m a : Map (List ℕ)) (f g h : Map (Map (List ℕ))) (bc fc mc gc ac hc : Map ℕ) (i j k : DialState) (p q r : Output) → Fits first → Achieves (sure_types false (look_types false true)) x first (world (tells b f bc fc) i p) (world (tells m g mc gc) j q) → Achieves (sure_types false (look_types false true)) y then (world (tells m g mc gc) j q) (world (tells a h ac hc) k r)
      → RoundTrip (Some first) (Some then) b a
  over x y (commands.Make store sizes workers digest index image) (commands.Extract stores retries seeds cache in_place n other out) b m a f g h bc fc mc gc ac hc i j k p q r fits made got = λ same.
      let Spelled : List ℕ → Listing → Type 0 = IndexSpells (storage (tells m g mc gc) j) (storage (tells a h ac hc) k) in
      let file : IsTrue (is_file index) = ap not fits in
      back b m a digest sizes index image out made.0 Spelled (λ l. spells_file index (storage (tells m g mc gc) j) (storage (tells a h ac hc) k) l file) made.1 (subst (λ i. IsExtracted Spelled a i out) same got)
  over x y first then b m a f g h bc fc mc gc ac hc i j k p q r fits made got = tt

  no_second : (first : Command) (b a : Map (List ℕ)) → RoundTrip (Some first) None b a
  no_second (commands.Make store sizes workers digest index image) b a = tt
  no_second other b a = tt

  pub round_trip : (x y : Heard) (first then : Option Command) (b m a : Map (List ℕ)) (f g h : Map (Map (List ℕ))) (bc fc mc gc ac hc : Map ℕ) (i j k : DialState) (p q r : Output) → IfSome first Fits → IfSome first (λ c. Achieves (sure_types false (look_types false true)) x c (world (tells b f bc fc) i p) (world (tells m g mc gc) j q)) → IfSome then (λ c. Achieves (sure_types false (look_types false true)) y c (world (tells m g mc gc) j q) (world (tells a h ac hc) k r))
      → RoundTrip first then b a
  round_trip x y None then b m a f g h bc fc mc gc ac hc i j k p q r fits made got = tt
  round_trip x y (Some first) None b m a f g h bc fc mc gc ac hc i j k p q r fits made got = no_second first b a
  round_trip x y (Some first) (Some then) b m a f g h bc fc mc gc ac hc i j k p q r fits made got = over x y first then b m a f g h bc fc mc gc ac hc i j k p q r fits made got
