use Rattle.clean_images.proofs.KeptClean.{clean_stays}
use Rattle.clean_images.proofs.clean_images_stay.Goals as goal

pub returns : goal.returns
returns g c = λ s first script opened p q kind from to told placed facts from_is to_is turn does old.
    clean_stays g.D.PageDisk g.met.D.PageDisk.telling
    (record { s = s; placed = placed; first = first; script = script; p = p; facts = facts }) opened q kind from to told
    from_is to_is turn does old
