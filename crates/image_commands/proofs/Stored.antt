-- How storing an image ended, by its answer.
use Rattle.std.proofs.Common.{◌≡◌, ◌<◌, ℕ, All, List, [], ◌∷◌, length, map, Option, Some, None, IfSome, IfErr, IfOk, IsErrAnd, Result, Ok, Err, refl}
use Rattle.std.specs.Option.{option_map}
use Rattle.buzhash_cut.specs.Image.{HasTooManyCuts}
use Rattle.buzhash_cut.specs.Sizes.{Sizes}
use Rattle.chunk_store.specs.Folders.{chunks}
use Rattle.chunk_store.specs.Said.{KeepsOf, Said}
use Rattle.chunk_store.specs.declared.id.DigestKind.{DigestKind}
use Rattle.command_outcome.specs.declared.outcome.Outcome.{Outcome}
use Rattle.command_steps.specs.Sources.{Storage, StoreRose}
use Rattle.command_words.specs.declared.command.Location.{Location}
use Rattle.command_worlds.specs.Worlds.{FileRose}
use Rattle.dsy_base.specs.Bytes.{Held}
use Rattle.dsy_base.specs.Maps.{Map}
use Rattle.image_commands.proofs.GivenStores.{stored_more}
use Rattle.image_commands.proofs.Made.{made_of}
use Rattle.image_commands.proofs.Viewed.{of_first, said_of}
use Rattle.image_commands.specs.Make.{AnySaid, GetsImage, HasFewCuts, ImageStored, MadeOf, StoreGiven, WritesStore, answer_of_storing}
use Rattle.image_views.specs.Views.{AreOf}
use Rattle.image_store.specs.StoreImage.{IsOfCutting, IsOfImage, PutsFilesOf, SaysOf, StoresImage}
use Rattle.image_store.specs.declared.put_chunks.MakeFault.{MakeFault}
use Rattle.image_store.specs.declared.put_chunks.MakeFault.TheVariants as faults

-- an answer, with the bytes that are seen of what it gives
abbrev pub seen_as : {A E : Type 0} → (A → List ℕ) → Result A E → Result (List ℕ) E
seen_as of (Ok a) = Ok (of a)
seen_as of (Err e) = Err e

-- what a server has said of an image that was stored
abbrev pub SaidAfter : DigestKind → Sizes → Option (List ℕ) → Result (List ℕ) MakeFault → Said → Type 0
SaidAfter kind s told (Ok bytes) = SaysOf kind s told bytes
SaidAfter kind s told (Err fault) = AnySaid

-- there aren't too many cuts where no fault of cutting is told
few : {A : Type 0} (s : Sizes) (told : Option (List ℕ)) (r : Result A MakeFault) (Z : Type 0) → IfSome told (λ t. HasTooManyCuts s t → IsErrAnd r IsOfCutting × Z) → (IsErrAnd r IsOfCutting → ⊥) → HasFewCuts s told
few s None r Z many not = tt
few s (Some t) r Z many not = λ x. not (many x).0

module _ (kind : DigestKind) (s : Sizes) (image : List ℕ) (told : Option (List ℕ)) (store : Location) (held : Option (Map (List ℕ))) (w v : Storage) {A : Type 0} (of : A → List ℕ) where
  pub stored_ended : (r : Result A MakeFault) (Z : Type 0) → IfSome told (λ t. HasTooManyCuts s t → IsErrAnd r IsOfCutting × Z) → IfErr r (IsOfImage s told)
      → StoreGiven store held (MadeOf kind s told (seen_as of r)) (SaidAfter kind s told (seen_as of r)) w v
      → (r ≡ Err faults.TooManyItems → StoreGiven store held (λ f g. (g ≡ f) × MadeOf kind s told (seen_as of r) f g) AnySaid w v)
      → (r ≡ Err faults.ImageFault → FileRose w.disk v.disk image) → (r ≡ Err faults.StoreFault → StoreRose w v store)
      → WritesStore (image ∷ []) store w v → GetsImage kind s told store w v
      → ImageStored kind s image told store held w (seen_as of (answer_of_storing r)) v
  stored_ended (Ok a) Z many cause given same image_rose store_rose kept gets = (few {A = A} s told (Ok a) Z many (λ x. x), given, kept, gets)
  stored_ended (Err faults.TooManyItems) Z many cause given same image_rose store_rose kept gets = ((cause, same refl), kept, gets)
  stored_ended (Err faults.ImageFault) Z many cause given same image_rose store_rose kept gets = ((image_rose refl, given), kept, gets)
  stored_ended (Err (faults.Changed k was got)) Z many cause given same image_rose store_rose kept gets = ((cause.0, cause.1, given), kept, gets)
  stored_ended (Err faults.StoreFault) Z many cause given same image_rose store_rose kept gets = ((refl, store_rose refl, few {A = A} s told (Err faults.StoreFault) Z many (λ x. x), given), kept, gets)
  stored_ended (Err faults.Memory) Z many cause given same image_rose store_rose kept gets = (given, kept, gets)

-- what holds for an answer holds for what it gives, and for its outcome
module _ {A : Type 0} (of : A → List ℕ) (Y : List ℕ → Option (List ℕ) → Type 0) (P : List ℕ → Option (List ℕ) → Result (List ℕ) Outcome → Type 0) where
  pub if_stored : (r : Result A Outcome) → ((q : List ℕ) (told : Option (List ℕ)) → Y q told → P q told (seen_as of r)) → IfOk r (λ a. (q : List ℕ) (told : Option (List ℕ)) → Y q told → P q told (Ok (of a)))
  if_stored (Ok a) h = h
  if_stored (Err o) h = tt

  pub if_unstored : (r : Result A Outcome) → ((q : List ℕ) (told : Option (List ℕ)) → Y q told → P q told (seen_as of r)) → IfErr r (λ o. (q : List ℕ) (told : Option (List ℕ)) → Y q told → P q told (Err o))
  if_unstored (Ok a) h = tt
  if_unstored (Err o) h = h

-- ---- what storing says of each view's image, of what they tell

pub said_more : (kind : DigestKind) (s : Sizes) (told : Option (List ℕ)) (r : Result (List ℕ) MakeFault) (a b : Said) → ((id : List ℕ) → KeepsOf a b id) → SaidAfter kind s told r a → SaidAfter kind s told r b
said_more kind s told (Ok bytes) a b keeps says = stored_more kind s told bytes a b keeps says
said_more kind s told (Err fault) a b keeps says = tt

pub made_as : {A : Type 0} (of : A → List ℕ) (kind : DigestKind) (s : Sizes) (told : Option (List ℕ)) (r : Result A MakeFault) (old new : Option (Map (List ℕ)))
    → IfSome told (λ t. IfSome (option_map chunks old) (λ m. IfSome (option_map chunks new) (λ n. StoresImage kind s of t m n r)))
    → PutsFilesOf kind s told (option_map chunks old) old new → IfSome old (λ f. IfSome new (λ g. MadeOf kind s told (seen_as of r) f g))
made_as of kind s told (Ok a) old new holds files = made_of kind s told (Ok (of a)) old new holds files
made_as of kind s told (Err fault) old new holds files = made_of kind s told (Err fault) old new holds files

module _ {X A : Type 0} (of : A → List ℕ) (H : X → Held) (xs : List X) (q : List ℕ) (told : Option (List ℕ)) (some : 0 < length xs) (are : AreOf q told (map H xs)) (kind : DigestKind) (s : Sizes) where
  pub said_after : (r : Result A MakeFault) (said : Said) → IfOk r (λ a. All (λ v. SaysOf kind s (H v).bytes (of a) said) xs) → SaidAfter kind s told (seen_as of r) said
  said_after (Ok a) said h = said_of H xs q told some are kind s (of a) said h
  said_after (Err fault) said h = tt

  pub cause_of : (r : Result A MakeFault) → IfErr r (λ e. All (λ v. IsOfImage s (H v).bytes e) xs) → IfErr r (IsOfImage s told)
  cause_of (Ok a) h = tt
  cause_of (Err fault) h = of_first H xs q told some are (λ o. IsOfImage s o fault) h
