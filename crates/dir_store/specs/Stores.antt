-- What holds of the store that a folder's files are.
use Rattle.std.specs.Prelude.{◌≡◌, ℕ, List, Option, Some, None, Bool, IsTrue, IsSome, IfSome, is_some, refl}
use Rattle.std.proofs.Common.{◌∙◌}
use Rattle.std.specs.Option.{option_map}
use Rattle.chunk_store.specs.Folders.{chunks}
use Rattle.dsy_base.specs.Maps.{Map}

-- what a folder store holds are the chunk files of its folder
pub lies_map : (files : Option (Map (List ℕ))) → IfSome files (λ m. option_map chunks files ≡ Some (chunks m))
lies_map None = tt
lies_map (Some m) = refl

-- a store whose contents are told counts no question
pub unasked_map : (holds : Option (Map (List ℕ)))
    → IfSome holds (λ _. (q : List ℕ) → (◌≡◌ {A = ℕ} 0 0) × (◌≡◌ {A = ℕ} 0 0))
unasked_map None = tt
unasked_map (Some m) = λ q. (refl, refl)

-- a store tells what it holds if its folder tells its files
pub told_map : (tells : Bool) (files : Option (Map (List ℕ))) → is_some files ≡ tells → IsTrue tells
    → IsSome (option_map chunks files)
told_map tells None told t = told ∙ t
told_map tells (Some m) told t = refl
