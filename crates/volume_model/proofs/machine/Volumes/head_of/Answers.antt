use Rattle.std.proofs.Common.{◌≡◌, Option, ℕ, Some, None, IfSome, IsSome, refl, sym, ◌∙◌}
use Rattle.volume_model.specs.Machine.{volumes_in}
use Rattle.volume_model.proofs.Heads.{named_there}
use Rattle.volume_model.proofs.machine.Volumes.head_of.Goals as goal

each : (o : Option ℕ) (P : ℕ → Type 0) → ((h : ℕ) → o ≡ Some h → P h) → IfSome o P
each None P all = tt
each (Some h) P all = all h refl

pub returns-in-Named-clause-there : goal.returns-in-Named-clause-there
returns-in-Named-clause-there c = each c.head_named.result (λ h. IsSome (volumes_in c.args.self.now h))
    (λ h is. named_there c.args.self.now.fixed (volumes_in c.args.self.now) c.bytes.result.now h
    (sym c.head_named.ensures ∙ is))
