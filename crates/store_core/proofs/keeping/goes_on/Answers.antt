use Rattle.std.proofs.Common.{refl}
use Rattle.running_store.specs.StoreView.{state_of}
use Rattle.store_model.specs.StoreState.{shown}
use Rattle.store_core.specs.StoreInvariant.{opening_script}
use Rattle.store_core.proofs.KeptOverTurns.{kept_goes_on}
use Rattle.store_core.proofs.keeping.goes_on.Goals as goal

pub returns : goal.returns
returns g c = λ p q k kept made.
    let d = g.D.PageDisk in
    kept_goes_on d (record {
      plants = c.state_turns.ensures;
      growing = c.growing.ensures;
      scans = c.scans.ensures;
      jobs = c.job_pages.ensures;
    }) g.met.D.PageDisk.telling p q k kept made
    (λ read. c.clean_images_stay.ensures p.opening.super (shown (state_of d p.opening)) (opening_script p.opening)
    (d.now p.opening.disk) (state_of d p.at) (state_of d q) k p.at.disk q.disk read.one.0 kept.placed kept.facts refl
    refl made.0 made.1 (kept.images read))
