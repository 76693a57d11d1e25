-- What reading the file under a name shows of it.
use Rattle.std.proofs.Common.{◌≡◌, ℕ, List, Option, Some, None, IfSome, Ok, Err, subst}
use Rattle.caibx_codec.specs.Answers.{FirstIn, ReadsIndex}
use Rattle.caibx_codec.specs.Listing.{Listing}
use Rattle.caibx_codec.specs.declared.reading.ViewFault.TheVariants as viewed
use Rattle.caibx_fields.specs.declared.fault.IndexFault.{IndexFault}
use Rattle.command_steps.specs.InputFiles.{IsBad, IsListed}
use Rattle.dsy_base.specs.Files.{OpenGives}
use Rattle.dsy_base.specs.Maps.{Map}

module _ {V : Type 0} (files : Option (Map (List ℕ))) (q : List ℕ) (bytes : V → Option (List ℕ)) (v : V) where
  -- a view of it was opened
  abbrev Opened : Option (Map (List ℕ)) → Type 0
  Opened told = IfSome told (λ m. OpenGives (m q) (λ w b. bytes w ≡ Some b) (Ok v))

  pub listed : (l : Listing) → Opened files → IfSome (bytes v) (λ t. ReadsIndex t (Ok l)) → IfSome files (λ m. IsListed m q l)
  listed l = read files where
    read : (told : Option (Map (List ℕ))) → Opened told → IfSome (bytes v) (λ t. ReadsIndex t (Ok l)) → IfSome told (λ m. IsListed m q l)
    read None opened is = tt
    read (Some m) opened is = record { bytes = opened.0; there = opened.1; file = subst (λ (o : Option (List ℕ)). IfSome o (λ t. ReadsIndex t (Ok l))) opened.2 is }

  pub bad : (fault : IndexFault) → Opened files → IfSome (bytes v) (λ t. ReadsIndex t (Err (viewed.Bad fault))) → IfSome (bytes v) (λ t. FirstIn t (Err (viewed.Bad fault))) → IfSome files (λ m. (b : List ℕ) × (m q ≡ Some b) × IsBad b fault)
  bad fault = read files where
    read : (told : Option (Map (List ℕ))) → Opened told → IfSome (bytes v) (λ t. ReadsIndex t (Err (viewed.Bad fault))) → IfSome (bytes v) (λ t. FirstIn t (Err (viewed.Bad fault))) → IfSome told (λ m. (b : List ℕ) × (m q ≡ Some b) × IsBad b fault)
    read None opened none first = tt
    read (Some m) opened none first = (
      opened.0,
      opened.1,
      record {
        none = subst (λ (o : Option (List ℕ)). IfSome o (λ t. ReadsIndex t (Err (viewed.Bad fault)))) opened.2 none;
        first = subst (λ (o : Option (List ℕ)). IfSome o (λ t. FirstIn t (Err (viewed.Bad fault)))) opened.2 first;
      },
    )
