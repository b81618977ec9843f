use Rattle.clean_images.proofs.KeptClean.{clean_begins}
use Rattle.clean_images.proofs.clean_images_begin.Goals as goal

pub returns : goal.returns
returns g c = clean_begins g.D.PageDisk g.met.D.PageDisk.telling
