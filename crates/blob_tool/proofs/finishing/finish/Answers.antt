use Rattle.std.proofs.Common.{◌≡◌, ◌∙◌, None, inl, inr, refl, subst, sym}
use Rattle.running_store.specs.StoreView.{StoreView}
use Rattle.blob_tool.specs.Repairing.{AreMade, EndedInRepair, EndsRepairs}
use Rattle.blob_tool.specs.declared.repairing.RepairsEnd.TheVariants as end
use Rattle.blob_tool.specs.declared.status.Status.TheVariants as status
use Rattle.blob_tool.proofs.EndedInRepair.{ended_in_repair}
use Rattle.blob_tool.proofs.RunSurvives.{load_laws}
use Rattle.blob_tool.proofs.finishing.finish.Goals as goal

pub finish_run-requires-clause-ended : goal.finish_run-requires-clause-ended
finish_run-requires-clause-ended g c = c.requires.ended (λ bad. elim c.in-Ended.is [
  | inl e ↦ let never = sym e ∙ bad in cc never
  | inr e ↦ let never = sym e.1 ∙ bad in cc never
])

pub returns-in-Ended : goal.returns-in-Ended
returns-in-Ended g c script drive repaired rows made unstopped unmarked follows same =
    inl (c.finish_run.ensures script drive repaired rows made unstopped unmarked follows)

pub returns-in-Memory : goal.returns-in-Memory
returns-in-Memory g c script drive repaired rows made unstopped unmarked follows same =
    let d = g.D.PageDisk in
    let out = c.args.out.now in
    let b = c.args.plant in
    let is : b.at ≡ repaired = same c.in-Memory.is in
    let ends : EndsRepairs d b.opening b.at end.Memory = record {
      made = subst (AreMade d b.opening) (sym is) made;
      ended = subst (λ (p : StoreView g.row.D.Denot). p.stopped ≡ None) (sym is) unstopped;
    } in
    inr (subst (λ (x : g.row.D.Denot). EndedInRepair d g.K.Sink out out x b.opening status.Memory)
    (sym c.device_left.ensures.disk)
    (ended_in_repair d
    (load_laws c.stores_are_accepted.ensures.in_use c.clean_stores_are_quick.ensures.accepted
    c.clean_stores_are_quick.ensures.listed c.fixed_clusters_decide.ensures.accepted
    c.fixed_clusters_decide.ensures.quick c.fixed_clusters_decide.ensures.no_head
    c.unloaded_masks_are_read.ensures.apart)
    g.met.D.PageDisk.telling c.state_stops.ensures b c.device_left.ensures.kept c.args.quick c.requires.read
    g.K.Sink out end.Memory status.Memory refl ends))
