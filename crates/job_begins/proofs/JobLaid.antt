-- New metadata of a blob that is there, laid on its head and on pages that are taken for it: what a job begins with.
use Rattle.std.proofs.Common.{◌≡◌, ℕ, false, List, [], ◌∷◌, Bool, drop, Some, None, sym, ap, subst}
use Rattle.std.specs.Ordering.{nat_cmp}
use Rattle.std.specs.FinMap as map
use Rattle.super_block.specs.Placed.{IsPlaced}
use Rattle.blob_meta.specs.declared.meta.Meta.{Meta}
use Rattle.store_model.specs.Places.{held_by, IsLinked, UsedPages}
use Rattle.store_model.specs.RunInvariant.{RunsWell}
use Rattle.store_model.specs.Steady.{IsStored}
use Rattle.store_model.specs.StoreState.{StoreState}
use Rattle.store_model.proofs.Sets.{among_first}
use Rattle.running_store.specs.RunningState.{IsRunning}
use Rattle.job_begins.specs.Begins.{IsPrepared}
use Rattle.job_begins.specs.declared.preparing.Prepared.{Prepared}
use Rattle.job_begins.proofs.JobPlanned.{IsReady}
use Rattle.job_begins.proofs.LaidOn.{ready_on}

module _ (p : StoreState) (running : IsRunning p) (runs : p.stopped ≡ None) (no_job : p.job ≡ None) (head : ℕ)
    (new : Meta) (stored : IsStored p.super head new)
    (has_chain : (behind : List ℕ) × (p.chains head ≡ Some (head ∷ behind)))
    (chains : map.FinMap nat_cmp (List ℕ)) (after : List Bool) (x : Prepared)
    (is : IsPrepared chains head new false p.pages after x) where
  well : RunsWell running.first p
  well = running.facts.well runs

  placed : IsPlaced p.super
  placed = subst IsPlaced (sym running.facts.super) running.placed

  used : UsedPages p.super.md_len p.pages p.chains []
  used = subst (UsedPages p.super.md_len p.pages p.chains) (ap held_by no_job) well.pages

  linked : IsLinked p.chains head
  linked = record {
    head = head;
    pages = head ∷ has_chain.0;
    chain = has_chain.1;
    among = among_first head has_chain.0;
  }

  pub laid : IsReady p head new false after x.laid.pages (drop 1 x.laid.chain)
  laid = ready_on p.super placed p.pages used.count head new stored false (λ _. used.linked head linked)
      is.items is.are is.plannable after x.laid is.taken
