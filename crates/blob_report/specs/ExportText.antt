-- The line that an export prints.
use Rattle.std.specs.Prelude.{ℕ, List, ◌++◌, decimal, codes}
use Rattle.volume_model.specs.declared.reply.Reply.TheVariants as r
use Rattle.blob_report.specs.Text.{reply_text}
use Rattle.blob_report.specs.declared.export.ExportLine.{ExportLine}
use Rattle.blob_report.specs.declared.export.ExportLine.TheVariants as line

-- how many pages were written, or why none was, which a reply would say so too
abbrev pub export_text : ExportLine → List ℕ
export_text (line.Exported pages) = codes "exported " ++ decimal pages ++ codes "\n"
export_text line.NoVolume = reply_text r.NoVolume ++ codes "\n"
export_text line.OutOfRange = reply_text r.OutOfRange ++ codes "\n"
