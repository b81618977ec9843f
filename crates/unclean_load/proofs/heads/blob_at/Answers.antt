use Rattle.std.proofs.Common.{◌≡◌, rules, Bool, true, subst}
use Rattle.unclean_load.proofs.Places.{gave_blob}
use Rattle.unclean_load.specs.Reading.{GaveHead}
use Rattle.unclean_load.proofs.heads.blob_at.Goals as goal

pub returns-clause-found : goal.returns-clause-found
returns-clause-found g c =
    let d = g.D.PageDisk in
    let s = c.args.sup.now in
    let is : c.in_ok-has_head.field-0 ≡ true = search rules in
    gave_blob d s c.args.disk.now c.args.place c.args.heads.now
    (subst (λ (b : Bool). GaveHead d s c.args.disk.now c.args.heads.now c.args.place b) is
    c.in_ok-has_head.ensures.found) c.has_head.new.disk c.in_ok-has_head.ensures.same
    (record { meta = c.in_ok-meta.meta; pages = c.in_ok-chain.chain.pages }) c.in_ok-chain.chain.items
    c.in_ok-chain.ensures.found c.in_ok-meta.ensures.found c.in_ok-meta.ensures.no_fault
