-- What `verify-index` has found where it is done.
use Rattle.std.proofs.Common.{◌≡◌, ℕ, List, Option, Some, None, IfSome, Ok, subst, ◌∙◌}
use Rattle.caibx_codec.specs.Listing.{Listing}
use Rattle.caibx_codec.specs.Right.{IsRight}
use Rattle.command_indexes.proofs.Got.{got_reads}
use Rattle.command_indexes.proofs.Spelled.{got_then}
use Rattle.command_indexes.specs.Spelled.{IndexSpells}
use Rattle.command_steps.proofs.Dialed.{dials_same}
use Rattle.command_steps.specs.Sources.{storage, storage_of}
use Rattle.command_words.specs.Locations.{index_place_of}
use Rattle.command_worlds.specs.Worlds.{World}
use Rattle.store_commands.specs.VerifyIndex.{IsVerified, VerifyIndexEnds}
use Rattle.dsy_base.specs.Maps.{Map}

over_files : (Spelled : List ℕ → Listing → Type 0) (files : Option (Map (List ℕ))) (index image : List ℕ) (l : Listing) (told : Option (List ℕ)) → Spelled index l → IfSome files (λ m. (t : List ℕ) × (m image ≡ Some t) × (told ≡ Some t)) → IfSome told (λ t. IsRight t l)
    → IfSome files (λ m. IsVerified Spelled m index image)
over_files Spelled None index image l told listed there right = tt
over_files Spelled (Some m) index image l told listed there right = record { listing = l; listed = listed; bytes = there.0; there = there.1; right = subst (λ o. IfSome o (λ t. IsRight t l)) there.2 right }

pub verified : (index image : List ℕ) (w v : World) → VerifyIndexEnds index image w (Ok tt) v → IfSome w.disk.files (λ m. IsVerified (IndexSpells (storage_of w) (storage_of v)) m index image)
verified index image w v h =
    let opened = h.then in
    let told = opened.gave in
    let files = (got_reads index (index_place_of index) (storage_of w) (Ok h.gave) (storage h.disk h.dial) h.did.0).files in
    let spells = got_then index (storage_of w) (storage h.disk h.dial) (storage_of v) h.gave h.did.0 (dials_same h.dial v.dial (opened.then.1 ∙ opened.did.1)) in
    over_files (IndexSpells (storage_of w) (storage_of v)) w.disk.files index image h.gave told spells
    (subst (λ f. IfSome f (λ m. (t : List ℕ) × (m image ≡ Some t) × (told ≡ Some t))) files opened.did.0.0)
    opened.then.0.0
