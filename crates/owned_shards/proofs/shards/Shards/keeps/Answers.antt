use Rattle.std.proofs.Common.{◌≡◌, ◌≤◌, ℕ, Bool, true, false, List, Some, None, IfSome, is_some, if◌then◌else◌, refl, subst}
use Rattle.owned_shards.proofs.Kept.{never_below, whole_kept}
use Rattle.owned_shards.specs.Wholes.{KeptWhole, Whole, joined_bytes}
use Rattle.owned_shards.proofs.shards.Shards.keeps.Goals as goal

pub returns-clause-kept : goal.returns-clause-kept
returns-clause-kept g c = subst (λ (w : Whole). IfSome w.held.bytes (KeptWhole g.R.RunName.run w)) c.self.view_is
    (whole_kept g.R.RunName.run (g.T.Target.left c.self.inside.rest) g.T.View.tells c.self.inside.shards.items c.self.invariant.1)

pub returns-clause-faults : goal.returns-clause-faults
returns-clause-faults g c = subst (λ (w : Whole). w.faults_before ≤ w.faults) c.self.view_is
    (never_below g.R.RunName.run (g.T.Target.left c.self.inside.rest) g.T.View.tells c.self.inside.shards.items c.self.invariant.1)

told_so : (b : Bool) (t : List ℕ) → is_some (if b then Some t else None) ≡ b
told_so true t = refl
told_so false t = refl

pub returns-clause-tells : goal.returns-clause-tells
returns-clause-tells g c = subst (λ (w : Whole). is_some w.held.bytes ≡ g.T.View.tells) c.self.view_is (told_so g.T.View.tells (joined_bytes c.self.inside.shards.items))
