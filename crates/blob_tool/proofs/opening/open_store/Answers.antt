use Rattle.std.proofs.Common.{◌≡◌, ◌∙◌, List, inl, inr, rules, subst, sym}
use Rattle.std.specs.FinMap as map
use Rattle.page_disk.specs.declared.disk.PageDisk as disk
use Rattle.running_store.specs.declared.loaded.Loaded.{Loaded}
use Rattle.running_store.specs.StoreView.{base_of, StoreView}
use Rattle.volume_model.specs.declared.command.Command.{Command}
use Rattle.store_core.specs.Opening.{IsOpened}
use Rattle.blob_tool.specs.Found.{ReadsAs}
use Rattle.blob_tool.specs.Repairing.{EndedInRepair, EndsRepairs}
use Rattle.blob_tool.proofs.EndedInRepair.{ended_in_repair, no_usage_of_repairs, none_left}
use Rattle.blob_tool.proofs.RunSurvives.{load_laws}
use Rattle.blob_tool.proofs.opening.open_store.Goals as goal

-- a store that is opened is read as it was loaded
read_at_opening : {D : Type 0} (d : disk.Ghosts D) (loaded : Loaded D) (script : List (List Command)) (p : StoreView D)
    → IsOpened d loaded script p
    → ReadsAs d loaded.quick loaded.sup (base_of loaded.metas loaded.marked) (map.get loaded.chains) loaded.disk
    → ReadsAs d loaded.quick p.super (base_of p.metas p.marked) (map.get p.chains) p.disk
read_at_opening {D} d loaded script p opened read =
    subst (λ (q : StoreView D). ReadsAs d loaded.quick q.super (base_of q.metas q.marked) (map.get q.chains) q.disk)
    (sym opened.at) read

pub returns-in-Some-clause-ended : goal.returns-in-Some-clause-ended
returns-in-Some-clause-ended g c from drive out =
    let d = g.D.PageDisk in
    let k = g.K.Sink in
    let b = c.repair-end.new.plant in
    let same : c.in-Ok.made.0.at ≡ b.opening = sym (c.repair-end.ensures.opening ∙ c.in-Ok.ensures.opening) in
    let opened = subst (IsOpened d c.args.loaded c.args.script) same c.in-Ok.ensures.opened in
    let ends = subst (λ (p : StoreView g.row.D.Denot). EndsRepairs d p b.at c.repair-end.result) same
    c.repair-end.ensures.ended in
    inl (
      b.opening,
      opened,
      inr (
          subst (λ (x : g.row.D.Denot). EndedInRepair d k out out x b.opening c.in-Some.status)
          (sym c.device_left.ensures.disk)
          (ended_in_repair d
          (load_laws c.stores_are_accepted.ensures.in_use c.clean_stores_are_quick.ensures.accepted
          c.clean_stores_are_quick.ensures.listed c.fixed_clusters_decide.ensures.accepted
          c.fixed_clusters_decide.ensures.quick c.fixed_clusters_decide.ensures.no_head
          c.unloaded_masks_are_read.ensures.apart)
          g.met.D.PageDisk.telling c.state_stops.ensures b c.device_left.ensures.kept c.args.loaded.quick
          (read_at_opening d c.args.loaded c.args.script b.opening opened c.requires.read) k out c.repair-end.result
          c.in-Some.status (sym c.status.ensures ∙ c.in-Some.is) ends)
          ),
    )

pub returns-in-Some-clause-no_usage : goal.returns-in-Some-clause-no_usage
returns-in-Some-clause-no_usage g c =
    no_usage_of_repairs c.repair-end.result c.in-Some.status (sym c.status.ensures ∙ c.in-Some.is)

pub returns-in-None-clause-mended : goal.returns-in-None-clause-mended
returns-in-None-clause-mended g c =
    let d = g.D.PageDisk in
    let b = c.repair-end.new.plant in
    let same : c.in-Ok.made.0.at ≡ b.opening = sym (c.repair-end.ensures.opening ∙ c.in-Ok.ensures.opening) in
    let opened = subst (IsOpened d c.args.loaded c.args.script) same c.in-Ok.ensures.opened in
    let ends = subst (λ (p : StoreView g.row.D.Denot). EndsRepairs d p b.at c.repair-end.result) same
    c.repair-end.ensures.ended in
    let left = none_left d b.at c.repair-end.result (sym c.status.ensures ∙ c.in-None.is) ends.ended in
    record {
      opened = opened;
      read = read_at_opening d c.args.loaded c.args.script b.opening opened c.requires.read;
      made = ends.made;
      unstopped = left.0;
      unmarked = left.1;
      seventeen = search rules;
      repaired = search rules;
    }
