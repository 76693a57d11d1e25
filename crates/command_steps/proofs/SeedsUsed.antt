-- Which names opening and giving back the images of seeds has used.
use Rattle.std.proofs.Common.{◌≡◌, ◌≢◌, ◌++◌, ℕ, List, [], ◌∷◌, Option, Some, None, subst, sym}
use Rattle.std.specs.List.{AllZip}
use Rattle.command_steps.proofs.Used.{AllAmong, Within, joined_next, uses_twice, uses_within, views_joined, within_first, within_rest, within_same}
use Rattle.command_steps.specs.Seeds.{IsSeedAt, IsViewed}
use Rattle.command_steps.specs.Uses.{Uses, names_among}
use Rattle.dsy_base.specs.Bytes.{Held}
use Rattle.dsy_base.specs.Disk.{Disk}
use Rattle.extract_plan.specs.Seeds.{seed_held}
use Rattle.extract_plan.specs.declared.seed.Seed.{Seed}

-- a view that was opened under a name has no other
viewed_name : (d e : Disk) (q : List ℕ) (o : Option Held) → IsViewed d e q o → Within (names_among (o ∷ [])) (q ∷ [])
viewed_name d e q None is p none = tt
viewed_name d e q (Some h) is p none = (subst (λ (n : List ℕ). p ≢ n) (sym is.1) none.0, tt)

-- all that were opened under these names
pub viewed_names : (d e : Disk) (names : List (List ℕ)) (views : List (Option Held)) → AllZip (IsViewed d e) names views → Within (names_among views) names
viewed_names d e [] [] zip p none = tt
viewed_names d e [] (o ∷ views) zip p none = absurd zip
viewed_names d e (q ∷ names) [] zip p none = absurd zip
viewed_names d e (q ∷ names) (o ∷ views) zip p none = views_joined.both o views p (viewed_name d e q o zip.0 p (within_first q names p none)) (viewed_names d e names views zip.1 p (within_rest q names p none))

module _ {V : Type 0} (held : V → Held) (faults : V → ℕ) (d b c : Disk) (q : List ℕ) (names : List (List ℕ)) (s : Seed V) (is : IsSeedAt held faults d b q s) where
  named : Within (names_among (seed_held held s ∷ [])) (q ∷ [])
  named = viewed_name d b q (seed_held held s) is.viewed

  -- the first was opened
  pub opened_first : Uses (q ∷ []) [] d b → Uses (q ∷ names) [] d b
  opened_first = uses_within (q ∷ []) [] (q ∷ names) [] d b (within_first q names) (within_same [])

  -- and kept, or given back
  pub kept_first : Uses (q ∷ []) [] d b → Uses (names_among (seed_held held s ∷ [])) [] b c → Uses (q ∷ names) [] d c
  kept_first u v = uses_twice (q ∷ names) [] d b c (opened_first u) (uses_within (names_among (seed_held held s ∷ [])) [] (q ∷ names) [] b c (λ p none. named p (within_first q names p none)) (within_same []) v)

  -- and then the rest
  pub opened_all : (e : Disk) → Uses (q ∷ []) [] d b → Uses (names_among (seed_held held s ∷ [])) [] b c → Uses names [] c e → Uses (q ∷ names) [] d e
  opened_all e u v w = uses_twice (q ∷ names) [] d c e (kept_first u v) (uses_within names [] (q ∷ names) [] c e (within_rest q names) (within_same []) w)

  pub among_seeds : (old mid new : List (Seed V)) → mid ≡ old ++ s ∷ [] → AllAmong names_among (seed_held held) mid names new → AllAmong names_among (seed_held held) old (q ∷ names) new
  among_seeds old mid new same = joined_next names_among views_joined (seed_held held) old mid new s (q ∷ []) names (q ∷ names) (within_first q names) (within_rest q names) named same
