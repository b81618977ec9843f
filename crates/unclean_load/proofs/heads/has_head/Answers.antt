use Rattle.std.proofs.Common.{sym, subst}
use Rattle.unclean_load.proofs.Places.{gave_listed}
use Rattle.unclean_load.specs.Reading.{GaveHead}
use Rattle.unclean_load.specs.declared.heads.Heads.{Heads}
use Rattle.unclean_load.proofs.heads.has_head.Goals as goal

pub returns-in-Listed-clause-found : goal.returns-in-Listed-clause-found
returns-in-Listed-clause-found g c =
    let d = g.D.PageDisk in
    let s = c.args.sup.now in
    subst (λ (h : Heads). GaveHead d s c.args.disk.now h c.args.place c.get.result) (sym c.in-Listed.is)
    (gave_listed d s c.args.disk.now c.args.place c.in-Listed.places c.get.result c.get.ensures)
