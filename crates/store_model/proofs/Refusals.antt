-- No refusal changes a volume.
use Rattle.std.proofs.Common.{◌≡◌, ℕ}
use Rattle.volume_model.specs.Volumes.{Fixed, Volumes}
use Rattle.volume_model.specs.Steps.{IsRefusal, Step}
use Rattle.volume_model.specs.declared.command.Command.{Command}
use Rattle.volume_model.specs.declared.reply.Reply.{Reply}

abbrev pub RefusalsChangeNothing : Type 0
RefusalsChangeNothing = (f : Fixed) (v : Volumes) (command : Command) (reply : Reply) (w : Volumes) → IsRefusal reply
    → Step f v command reply w → (h : ℕ) → w h ≡ v h
