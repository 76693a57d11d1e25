-- Stores that are opened in order.
use Rattle.std.proofs.Common.{◌≡◌, ℕ, List, [], ◌∷◌, ◌++◌, map, sym, ap, ◌∙◌, inl, inr, subst, Option, Some, None, IfSome}
use Rattle.std.proofs.lemmas.List.{append-nil, append_assoc, map-append}
use Rattle.std.proofs.lemmas.List.Elements.{All-cons, All-nil}
use Rattle.std.specs.List.{All}
use Rattle.command_outcome.specs.declared.outcome.Outcome.{Outcome}
use Rattle.command_outcome.specs.declared.outcome.Outcome.TheVariants as ends
use Rattle.command_words.specs.declared.command.Location.{Location}
use Rattle.command_words.specs.declared.command.Location.TheVariants as locations
use Rattle.command_steps.proofs.Opened.{given_back, later}
use Rattle.command_steps.specs.Sources.{FirstUnreached, IsSourceAt, IsThere, OpensSources, Unreached, location_files}
use Rattle.command_worlds.specs.Worlds.{Reads}
use Rattle.dsy_base.specs.Disk.{Disk}
use Rattle.dsy_base.specs.Maps.{Map}

unreached_later : (d b e : Disk) → Reads d b → (s : Location) (o : Outcome) → Unreached b e s o → Unreached d e s o
unreached_later d b e r s ends.Memory h = tt
unreached_later d b e r (locations.Folder q) (ends.NoFolder name) h = later d b e r q (ends.NoFolder name) h
unreached_later d b e r (locations.Folder q) (ends.FileFault name) h = later d b e r q (ends.FileFault name) h
unreached_later d b e r (locations.Folder q) other h = absurd h
unreached_later d b e r (locations.Http host port prefix) other h = absurd h

unreached_longer : (d e f : Disk) → Reads e f → (s : Location) (o : Outcome) → Unreached d e s o → Unreached d f s o
unreached_longer d e f r s ends.Memory h = tt
unreached_longer d e f r (locations.Folder q) (ends.NoFolder name) h = given_back d e f r q (ends.NoFolder name) h
unreached_longer d e f r (locations.Folder q) (ends.FileFault name) h = given_back d e f r q (ends.FileFault name) h
unreached_longer d e f r (locations.Folder q) other h = absurd h
unreached_longer d e f r (locations.Http host port prefix) other h = absurd h

-- the rest refused over a later disk, and maybe before more was given back
first_later : (d b e : Disk) → Reads d b → (names : List Location) (o : Outcome) → FirstUnreached b e names o → FirstUnreached d e names o
first_later d b e r [] o h = h
first_later d b e r (s ∷ names) o (inl h) = inl (unreached_later d b e r s o h)
first_later d b e r (s ∷ names) o (inr h) = inr (subst (λ f. IfSome f (λ m. IsThere m s)) r.folders h.0, first_later d b e r names o h.1)

pub first_longer : (d e f : Disk) → Reads e f → (names : List Location) (o : Outcome) → FirstUnreached d e names o → FirstUnreached d f names o
first_longer d e f r [] o h = h
first_longer d e f r (s ∷ names) o (inl h) = inl (unreached_longer d e f r s o h)
first_longer d e f r (s ∷ names) o (inr h) = inr (h.0, first_longer d e f r names o h.1)

module _ {S : Type 0} (files : S → Option (Map (List ℕ))) (location : S → Location) (counted : S → ℕ) where
  -- the first was opened, and one of the rest wasn't
  pub unreached_after : (d b c e : Disk) → Reads d b → Reads b c → (q : Location) (names : List Location) (x : S) (o : Outcome)
      → IsSourceAt files location counted d.folders q x → FirstUnreached c e names o → FirstUnreached d e (q ∷ names) o
  unreached_after d b c e r s q names x o is h = inr (is.there, first_later d b e r names o (first_later b c e s names o h))

  -- ---- stores that are appended one by one

  there_in : (m : Map (Map (List ℕ))) (names : List Location) (old new : List S) → OpensSources files location counted (Some m) names old new → All (IsThere m) names
  there_in m [] old new h = All-nil (IsThere m)
  there_in m (q ∷ names) old new h = All-cons (IsThere m) q names h.1.there (there_in m names (old ++ h.0 ∷ []) new h.2)

  pub there_all : (folders : Option (Map (Map (List ℕ)))) (names : List Location) (old new : List S) → OpensSources files location counted folders names old new → IfSome folders (λ m. All (IsThere m) names)
  there_all None names old new h = tt
  there_all (Some m) names old new h = there_in m names old new h

  found_in : (m : Map (Map (List ℕ))) (names : List Location) (old new : List S) → OpensSources files location counted (Some m) names old new → map files new ≡ map files old ++ map (location_files m) names
  found_in m [] old new h = ap (λ (l : List S). map files l) h ∙ sym (append-nil (map files old))
  found_in m (q ∷ names) old new h =
      let one : map files (old ++ h.0 ∷ []) ≡ map files old ++ location_files m q ∷ [] = map-append files old (h.0 ∷ []) ∙ ap (λ (o : Option (Map (List ℕ))). map files old ++ o ∷ []) h.1.found in
      found_in m names (old ++ h.0 ∷ []) new h.2 ∙ ap (λ (l : List (Option (Map (List ℕ)))). l ++ map (location_files m) names) one ∙ append_assoc (map files old) (location_files m q ∷ []) (map (location_files m) names)

  pub found_all : (folders : Option (Map (Map (List ℕ)))) (names : List Location) (old new : List S) → old ≡ [] → OpensSources files location counted folders names old new → IfSome folders (λ m. map files new ≡ map (location_files m) names)
  found_all None names old new is h = tt
  found_all (Some m) names old new is h = found_in m names [] new (subst (λ (l : List S). OpensSources files location counted (Some m) names l new) is h)

  located_in : (folders : Option (Map (Map (List ℕ)))) (names : List Location) (old new : List S) → OpensSources files location counted folders names old new → map location new ≡ map location old ++ names
  located_in folders [] old new h = ap (λ (l : List S). map location l) h ∙ sym (append-nil (map location old))
  located_in folders (q ∷ names) old new h =
      let one : map location (old ++ h.0 ∷ []) ≡ map location old ++ q ∷ [] = map-append location old (h.0 ∷ []) ∙ ap (λ (o : Location). map location old ++ o ∷ []) h.1.located in
      located_in folders names (old ++ h.0 ∷ []) new h.2 ∙ ap (λ (l : List Location). l ++ names) one ∙ append_assoc (map location old) (q ∷ []) names

  pub located_all : (folders : Option (Map (Map (List ℕ)))) (names : List Location) (old new : List S) → old ≡ [] → OpensSources files location counted folders names old new → map location new ≡ names
  located_all folders names old new is h = located_in folders names [] new (subst (λ (l : List S). OpensSources files location counted folders names l new) is h)

  counts_in : (folders : Option (Map (Map (List ℕ)))) (names : List Location) (old new : List S) → OpensSources files location counted folders names old new → map counted new ≡ map counted old ++ map (λ (q : Location). 0) names
  counts_in folders [] old new h = ap (λ (l : List S). map counted l) h ∙ sym (append-nil (map counted old))
  counts_in folders (q ∷ names) old new h =
      let one : map counted (old ++ h.0 ∷ []) ≡ map counted old ++ 0 ∷ [] = map-append counted old (h.0 ∷ []) ∙ ap (λ (o : ℕ). map counted old ++ o ∷ []) h.1.unfailed in
      counts_in folders names (old ++ h.0 ∷ []) new h.2 ∙ ap (λ (l : List ℕ). l ++ map (λ (q : Location). 0) names) one ∙ append_assoc (map counted old) (0 ∷ []) (map (λ (q : Location). 0) names)

  pub fresh_all : (folders : Option (Map (Map (List ℕ)))) (names : List Location) (old new : List S) → old ≡ [] → OpensSources files location counted folders names old new → map counted new ≡ map (λ q. 0) names
  fresh_all folders names old new is h = counts_in folders names [] new (subst (λ (l : List S). OpensSources files location counted folders names l new) is h)
