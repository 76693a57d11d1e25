-- Folders, one of which was put under its name.
use Rattle.std.proofs.Common.{◌≡◌, ℕ, List, Option, Some, None, IfSome, refl, sym, ap}
use Rattle.std.specs.Option.{option_map}
use Rattle.command_steps.proofs.Taken.{at_name_twice}
use Rattle.dsy_base.proofs.Counts.{at_same}
use Rattle.dsy_base.specs.Maps.{Map, at_name}

-- a name that is put twice
pub put_twice : (o : Option (Map (Map (List ℕ)))) (q : List ℕ) (x y : Option (Map (List ℕ))) → option_map (λ (m : Map (Map (List ℕ))). at_name m q y) o ≡ option_map (λ (m : Map (Map (List ℕ))). at_name m q y) (option_map (λ (m : Map (Map (List ℕ))). at_name m q x) o)
put_twice None q x y = refl
put_twice (Some m) q x y = ap Some (sym (at_name_twice m q x y))

pub was_put : (o : Option (Map (Map (List ℕ)))) (q : List ℕ) (x : Option (Map (List ℕ))) → IfSome (option_map (λ (m : Map (Map (List ℕ))). at_name m q x) o) (λ m. m q ≡ x)
was_put None q x = tt
was_put (Some m) q x = at_same m q x
