-- What is planned for an export, and the line that tells of it.
use Rattle.std.specs.Prelude.{ℕ, ◌≤◌, Result, Ok, Err}
use Rattle.std.specs.Ordering.{nat_cmp}
use Rattle.std.specs.FinMap as map
use Rattle.super_block.specs.declared.page.Super.{Super}
use Rattle.volume_model.specs.declared.command.VolumeRef.{VolumeRef}
use Rattle.blob_meta.specs.declared.meta.Meta.{Meta}
use Rattle.blob_report.specs.declared.export.ExportLine.{ExportLine}
use Rattle.blob_report.specs.declared.export.ExportLine.TheVariants.{Exported}
use Rattle.whole_copy.specs.Meant.{IsMeant}
use Rattle.whole_copy.specs.declared.finding.MeantVolume.{MeantVolume}
use Rattle.blob_tool.specs.ExportOutcome.{IsNotExported}

-- a volume that is to be written, or why none is
abbrev pub Plan : Type 0
Plan = Result MeantVolume ExportLine

-- for a target of so many pages: the volume is the one that is meant, and has its place there
abbrev pub IsPlan : Super → map.FinMap nat_cmp Meta → VolumeRef → ℕ → Plan → Type 0
IsPlan s metas reference room (Ok volume) = IsMeant s metas reference volume × (volume.pages ≤ room)
IsPlan s metas reference room (Err line) = IsNotExported s metas reference room line

-- the line that is printed once the plan is carried out
abbrev pub line_of : Plan → ExportLine
line_of (Ok volume) = Exported volume.pages
line_of (Err line) = line
