use Rattle.std.proofs.Common.{◌≡◌, Some, ap, ◌∙◌}
use Rattle.std.specs.Option.{option_map_or}
use Rattle.std.proofs.lemmas.Result.{IfOk-weaker}
use Rattle.volume_model.specs.Machine.{volumes_in}
use Rattle.volume_model.specs.Uuids.{default_uuid}
use Rattle.volume_model.specs.Volumes.{two_xattrs}
use Rattle.volume_model.specs.Xattrs.{Xattrs}
use Rattle.volume_model.proofs.machine.Volumes.two_xattrs.Goals as goal

pub returns : goal.returns
returns c =
    let f = c.args.self.now.fixed in
    let v = volumes_in c.args.self.now in
    let name = c.args.name.now in
    let same = c.uuid_of_new.ensures
    ∙ ap (λ store. option_map_or (λ bytes. bytes) c.args.uuid (default_uuid store name)) c.store_uuid.ensures in
    IfOk-weaker c.named_xattrs.result _ (λ (xattrs : Xattrs). xattrs ≡ two_xattrs f v name c.args.uuid)
    (λ xattrs is. is f v ∙ ap (λ uuid. two_xattrs f v name (Some uuid)) same) c.named_xattrs.ensures.two
