use Rattle.std.proofs.Common.{◌≡◌, ◌∙◌, ◌++◌, ℕ, List, ap, inr, refl, rules, subst, sym}
use Rattle.page_disk.specs.Disk.{Rose}
use Rattle.blob_report.specs.ExportText.{export_text}
use Rattle.streams.specs.Printing.{IsPartOf}
use Rattle.running_store.proofs.PlainFacts.{on_err, on_ok}
use Rattle.blob_tool.specs.ExportOutcome.{IsCutOff}
use Rattle.blob_tool.specs.Exporting.{IsPlan, line_of}
use Rattle.blob_tool.proofs.ExportSteps.{cut_before, told_before}
use Rattle.blob_tool.proofs.exporting.export_image.Goals as goal

pub carry_out-requires-clause-planned : goal.carry_out-requires-clause-planned
carry_out-requires-clause-planned g c = (
  c.args.reference.now,
  subst (λ n. IsPlan c.in-Ok.loaded.sup c.in-Ok.loaded.metas c.args.reference.now n c.plan-plan.result) c.pages.ensures
      c.plan-plan.ensures,
)

pub returns-then-is_err-clause-ended : goal.returns-then-is_err-clause-ended
returns-then-is_err-clause-ended g c =
    let s = c.in-Ok.loaded.sup in
    let metas = c.in-Ok.loaded.metas in
    let reference = c.args.reference.now in
    let planned = subst (λ n. IsPlan s metas reference n c.plan-plan.result) c.pages.ensures c.plan-plan.ensures in
    let cut = on_err c.carry_out.result _ (sym c.is_err.ensures.value ∙ c.if-is_err.true) c.carry_out.ensures.cut_off
    reference planned in
    inr (record {
      at_is = refl;
      quiet = refl;
      loaded = c.in-Ok.loaded;
      found = c.in-Ok.ensures.found;
      cut_off = cut_before s metas reference g.D.PageDisk c.args.disk c.in-Ok.loaded.disk c.in-Ok.ensures.found.same
          g.E.PageDisk c.args.target c.carry_out.new.target c.in-Ok.ensures.found.no_fault
          c.disk_of-then-is_err.result
          (subst (IsCutOff s metas reference g.D.PageDisk c.in-Ok.loaded.disk g.E.PageDisk c.args.target
          c.carry_out.new.target) (sym c.disk_of-then-is_err.ensures) cut);
    })

pub returns-in-Ok-offer-clause-ended : goal.returns-in-Ok-offer-clause-ended
returns-in-Ok-offer-clause-ended g c =
    let s = c.in-Ok.loaded.sup in
    let metas = c.in-Ok.loaded.metas in
    let reference = c.args.reference.now in
    let planned = subst (λ n. IsPlan s metas reference n c.plan-plan.result) c.pages.ensures c.plan-plan.ensures in
    let told = on_ok c.carry_out.result _ (sym c.is_err.ensures.value ∙ c.if-is_err.false) c.carry_out.ensures.told
    reference planned in
    let text : c.deref.result.now ≡ export_text (line_of c.plan-plan.result) =
    c.deref.ensures.value ∙ c.in-Ok-render.ensures ∙ ap export_text c.line_of.ensures in
    record {
      line = line_of c.plan-plan.result;
      told = record {
        loaded = c.in-Ok.loaded;
        found = c.in-Ok.ensures.found;
        told = told_before s metas reference g.D.PageDisk c.args.disk c.in-Ok.loaded.disk
            c.in-Ok.ensures.found.same g.E.PageDisk c.args.target c.carry_out.new.target (line_of c.plan-plan.result) told;
      };
      printed = λ t.
          c.in-Ok-offer.ensures.whole t ∙ ap (λ (text : List ℕ). g.K.Sink.written c.args.out.now ++ text) text;
    }

pub returns-clause-ended : goal.returns-clause-ended
returns-clause-ended g c =
    let s = c.in-Ok.loaded.sup in
    let metas = c.in-Ok.loaded.metas in
    let reference = c.args.reference.now in
    let planned = subst (λ n. IsPlan s metas reference n c.plan-plan.result) c.pages.ensures c.plan-plan.ensures in
    let told = on_ok c.carry_out.result _ (sym c.is_err.ensures.value ∙ c.if-is_err.false) c.carry_out.ensures.told
    reference planned in
    let text : c.deref.result.now ≡ export_text (line_of c.plan-plan.result) =
    c.deref.ensures.value ∙ c.in-Ok-render.ensures ∙ ap export_text c.line_of.ensures in
    let rose : Rose (g.K.Sink.faults c.args.out.now) (g.K.Sink.faults c.offer.new.sink) = search rules in
    record {
      line = line_of c.plan-plan.result;
      told = record {
        loaded = c.in-Ok.loaded;
        found = c.in-Ok.ensures.found;
        told = told_before s metas reference g.D.PageDisk c.args.disk c.in-Ok.loaded.disk
            c.in-Ok.ensures.found.same g.E.PageDisk c.args.target c.carry_out.new.target (line_of c.plan-plan.result) told;
      };
      part = λ t.
          subst
          (λ (text : List ℕ). IsPartOf (g.K.Sink.written c.args.out.now) (g.K.Sink.written c.offer.new.sink) text) text
          (c.offer.ensures.part t);
      cause = rose;
    }
