-- What the check of an image answers, and what it achieves.
use Rattle.std.proofs.Common.{◌≡◌, ℕ, List, length, Option, Some, None, IfSome, IfErr, Result, Ok, Err, refl, sym, ◌∙◌}
use Rattle.caibx_codec.specs.Listing.{Listing}
use Rattle.image_check.specs.Checks.{NamesEntry, TellsChunks, TellsSize}
use Rattle.image_check.specs.declared.check.CheckFault.{CheckFault}
use Rattle.image_check.specs.declared.check.CheckFault.TheVariants as checks
use Rattle.store_commands.specs.VerifyIndex.{Checked, answer_of_check}
use Rattle.command_worlds.specs.Worlds.{FileRose}
use Rattle.dsy_base.specs.Disk.{Disk}

over : {X : Type 0} (o : Option X) (P Q : X → Type 0) → ((x : X) → P x → Q x) → IfSome o P → IfSome o Q
over None P Q f h = tt
over (Some x) P Q f h = f x h

over_two : {X : Type 0} (o : Option X) (P Q R : X → Type 0) → ((x : X) → P x → Q x → R x) → IfSome o P → IfSome o Q → IfSome o R
over_two None P Q R f h k = tt
over_two (Some x) P Q R f h k = f x h k

pub checked : (d e : Disk) (image : List ℕ) (l : Listing) (told : Option (List ℕ)) (size : ℕ) (r : Result Unit CheckFault)
    → IfSome told (λ t. length t ≡ size) → TellsSize l size r → IfSome told (λ t. TellsChunks l t r) → IfErr r (NamesEntry l) → (r ≡ Err checks.ImageFault → FileRose d e image)
    → Checked d e image l told (answer_of_check r)
checked d e image l told size (Ok u) sized tells chunks entry rose = over_two told _ _ _ (λ t s c. record { size = s ∙ tells; entries = c }) sized chunks
checked d e image l told size (Err (checks.Length n)) sized tells chunks entry rose = (tells.1, over told _ _ (λ t s. tells.0 ∙ sym s) sized)
checked d e image l told size (Err (checks.Mismatch k got)) sized tells chunks entry rose = (entry.0, entry.1, over_two told _ _ _ (λ t s c. (s ∙ tells, c)) sized chunks)
checked d e image l told size (Err checks.ImageFault) sized tells chunks entry rose = rose refl
checked d e image l told size (Err checks.Memory) sized tells chunks entry rose = tt
