use Rattle.std.proofs.Common.{ap, ◌∙◌}
use Rattle.volume_model.specs.Volumes.{head_of}
use Rattle.volume_model.specs.declared.command.VolumeRef.TheVariants.{Named}
use Rattle.blob_meta.proofs.Shown.{found_is_meant}
use Rattle.blob_meta.proofs.looking_up.find.Goals as goal

pub returns-in-Named-clause-meant : goal.returns-in-Named-clause-meant
returns-in-Named-clause-meant c = λ f v s. ap (head_of f v) c.in-Named.is
    ∙ found_is_meant c.args.metas.now c.args.sup.now (Named c.in-Named.name) c.find_named.result
    c.find_named.ensures.some c.find_named.ensures.none f v s
