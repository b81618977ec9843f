use Rattle.std.proofs.Common.{rules}
use Rattle.std.proofs.lemmas.List.{get_or_past}
use Rattle.volume_model.proofs.script.Script.channels.Goals as goal

pub loop-channels-init : goal.loop-channels-init
loop-channels-init c = (search rules, λ channel past. get_or_past c.self.inside.lists channel _ (search rules))
