use Rattle.std.proofs.Common.{◌≡◌, ◌≢◌, ◌∙◌, ap, subst, sym}
use Rattle.std.proofs.lemmas.List.Elements.{All-weaker}
use Rattle.page_disk.specs.Disk.{Rose}
use Rattle.running_store.specs.StoreView.{StoreView}
use Rattle.volume_model.specs.declared.reply.Entry.{Entry}
use Rattle.volume_model.specs.declared.reply.Reply.TheVariants as r
use Rattle.blob_tool.proofs.laws.undisturbed_runs_tell_no_fault.Goals as goal

pub returns : goal.returns
returns g c script script_now out out_now before back from drive ran fails =
    let d = g.D.PageDisk in
    let played = ran.ended.0 in
    let started = ran.started.as_found in
    let first : d.read_faults ran.first.disk ≡ d.read_faults before =
    ap (λ (p : StoreView g.row.D.Denot). d.read_faults p.disk) started.opened.at ∙ started.found.no_fault in
    let none : Rose (d.read_faults ran.first.disk) (d.read_faults played.last.disk) → ⊥ =
    λ rose. fails.reading
    (subst (λ n. Rose n (d.read_faults back)) first
    (subst (λ n. Rose (d.read_faults ran.first.disk) n) (sym played.read_faults) rose)) in (
      played.run.quiet ran.ended.1.0,
      All-weaker (λ (e : Entry). e.reply ≡ r.ReadFault
          → Rose (d.read_faults ran.first.disk) (d.read_faults played.last.disk)) (λ (e : Entry). e.reply ≢ r.ReadFault)
          (λ e rose is. none (rose is)) played.last.log played.run.read_counted,
    )
