use Rattle.blob_meta.proofs.Inverse.{says}
use Rattle.blob_meta.proofs.writing.items_say.Goals as goal

pub returns : goal.returns
returns c = says
