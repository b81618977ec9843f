use Rattle.blob_meta.proofs.ResolvedBlobs.{not_removed, not_made, marked_read_only}
use Rattle.blob_meta.proofs.repair_laws.resolved_blobs_have_no_marks.Goals as goal

pub returns-clause-removed : goal.returns-clause-removed
returns-clause-removed c = not_removed

pub returns-clause-made : goal.returns-clause-made
returns-clause-made c = not_made

pub returns-clause-read_only : goal.returns-clause-read_only
returns-clause-read_only c = marked_read_only
