use Rattle.page_disk.proofs.SinceRules.{now_images, entry_or_exit, before_or_since_entry}
use Rattle.page_disk.proofs.laws.images_since.Goals as goal

pub returns-clause-at_clock : goal.returns-clause-at_clock
returns-clause-at_clock g c told d = now_images g.D.PageDisk (g.met.D.PageDisk.telling told) d

pub returns-clause-at_entry : goal.returns-clause-at_entry
returns-clause-at_entry g c told old new time = entry_or_exit g.D.PageDisk (g.met.D.PageDisk.telling told) old new time

pub returns-clause-earlier : goal.returns-clause-earlier
returns-clause-earlier g c told old new time =
    before_or_since_entry g.D.PageDisk (g.met.D.PageDisk.telling told) old new time
