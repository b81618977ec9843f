use Rattle.std.proofs.Common.{◌≡◌, ◌<◌, ◌-◌, ◌^◌, ℕ, false}
use Rattle.volume_model.specs.declared.command.VolumeRef.TheVariants.{Named}
use Rattle.blob_meta.specs.Find.{is_meant}
use Rattle.blob_meta.proofs.looking_up.find_named.Given as goal

abbrev pub invariant-loop-head : goal.invariant-loop-head
invariant-loop-head l = (k : ℕ) → k < l.from → is_meant l.sup.super_blob l.metas (Named l.name) k ≡ false

abbrev pub decreases-loop-head : goal.decreases-loop-head
decreases-loop-head l = 2 ^ 32 - l.from
