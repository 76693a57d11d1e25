-- What a seed holds and gives: the bytes of a place, where they have the id.
use Rattle.std.specs.Prelude.{◌≡◌, ◌≢◌, ℕ, ◌+◌, ◌<◌, ◌≤◌, ◌⊎◌, List, Option, Some, None, IfSome, slice_range, unwrap_or}
use Rattle.std.specs.Option.{option_map}
use Rattle.dsy_base.specs.Bytes.{Held}
use Rattle.dsy_base.specs.Counts.{Rose}
use Rattle.chunk_store.specs.Digests.{digest_of}
use Rattle.extract_plan.specs.declared.seed.Seed.{Seed}
use Rattle.extract_plan.specs.declared.seed.SeedPlace.{SeedPlace}
use Rattle.extract_plan.specs.declared.seed.SeedAnswer.{SeedAnswer}
use Rattle.extract_plan.specs.declared.seed.SeedAnswer.TheVariants as answers

-- what a seed's view holds, and how often a call on it has failed
abbrev pub seed_held : {V : Type 0} → (V → Held) → Seed V → Option Held
seed_held held s = option_map held s.view

-- how often a call on the view of a seed has failed; 0 without a view
abbrev pub faults_in : {V : Type 0} → (V → ℕ) → Seed V → ℕ
faults_in faults s = unwrap_or (option_map faults s.view) 0

-- where a place ends
abbrev pub place_end : SeedPlace → ℕ
place_end p = p.start + p.size

-- the bytes of a place, in what a view holds
abbrev pub bytes_at : SeedPlace → List ℕ → List ℕ
bytes_at p bytes = slice_range bytes p.start (place_end p)

-- a seed gave these bytes from the place in what its view holds
pub record SeedGives (held : Held) (place : SeedPlace) (id out : List ℕ) : Type 0 where
  pub inside : place_end place ≤ held.size
  pub named : digest_of place.kind out ≡ id
  pub bytes : IfSome held.bytes (λ t. out ≡ bytes_at place t)

-- the place isn't inside what its view holds, or these bytes stand there and have another digest
abbrev pub GivesNot : Held → SeedPlace → List ℕ → List ℕ → Type 0
GivesNot held place id out = (held.size < place_end place)
    ⊎ ((place_end place ≤ held.size) × (digest_of place.kind out ≢ id)
    × IfSome held.bytes (λ t. out ≡ bytes_at place t))

-- the answer of a seed with such a view, or with none
abbrev pub SeedAnswersSo : Option Held → SeedPlace → List ℕ → List ℕ → SeedAnswer → Type 0
SeedAnswersSo None place id out answer = answer ≡ answers.Wrong
SeedAnswersSo (Some held) place id out answers.Given = SeedGives held place id out
SeedAnswersSo (Some held) place id out answers.Wrong = GivesNot held place id out
SeedAnswersSo (Some held) place id out answers.Failed = place_end place ≤ held.size

-- how the count of its view goes
abbrev pub CountsAnswer : Option ℕ → Option ℕ → SeedAnswer → Type 0
CountsAnswer (Some old) (Some new) answers.Failed = (old ≤ new) × Rose old new
CountsAnswer (Some old) (Some new) _ = new ≡ old
CountsAnswer (Some old) None _ = ⊥
CountsAnswer None new _ = new ≡ None
