use Rattle.std.proofs.Common.{is_some, sym, ap, ◌∙◌}
use Rattle.volume_model.specs.declared.command.VolumeRef.TheVariants.{Named}
use Rattle.blob_meta.proofs.Shown.{found_is_meant}
use Rattle.blob_meta.proofs.looking_up.is_taken.Goals as goal

pub returns : goal.returns
returns c = λ f v s. ap is_some (found_is_meant c.args.metas.now c.args.sup.now (Named c.args.name.now)
    c.find_named.result c.find_named.ensures.some c.find_named.ensures.none f v s)
    ∙ sym c.is_some.ensures
