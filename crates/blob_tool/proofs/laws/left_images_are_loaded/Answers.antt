use Rattle.blob_tool.proofs.NextRun.{begins_as_recovered}
use Rattle.blob_tool.proofs.laws.left_images_are_loaded.Goals as goal

pub returns-clause-sound : goal.returns-clause-sound
returns-clause-sound g c disk one sound = record { one = one; sound = sound }

pub returns-clause-shown : goal.returns-clause-shown
returns-clause-shown g c s first log disk loaded script next told pages sound recovers is =
    begins_as_recovered g.D.PageDisk told s first log disk pages sound recovers c.recoveries.ensures loaded script next
    is
