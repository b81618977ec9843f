-- What comes of a run from a store that is ready.
use Rattle.std.proofs.Common.{◌≡◌, ◌⊎◌, Bool, false, List, None, ap, inl, inr, refl, subst, sym}
use Rattle.std.specs.FinMap as map
use Rattle.page_disk.specs.declared.disk.PageDisk as disk
use Rattle.streams.specs.declared.source.Source as source
use Rattle.streams.specs.declared.sink.Sink as sink
use Rattle.volume_model.specs.declared.command.Command.{Command}
use Rattle.channels.specs.declared.stepwise.RunEnd.{RunEnd}
use Rattle.channels.specs.declared.stepwise.RunEnd.TheVariants.{Memory}
use Rattle.running_store.specs.StoreView.{base_of, StoreView, WithOpening}
use Rattle.store_core.specs.Opening.{AreRows}
use Rattle.blob_tool.specs.Found.{ReadsAs}
use Rattle.blob_tool.specs.Outcome.{IsReady, NothingFails, Outcome}
use Rattle.blob_tool.specs.Repairing.{AreMade, EndedInRepair}
use Rattle.blob_tool.specs.Runs.{Ended, EndedFrom, Finishes, FollowsDrive}
use Rattle.blob_tool.specs.Statuses.{is_usage, IsRunDone}
use Rattle.blob_tool.specs.declared.driving.Drive.{Drive}
use Rattle.blob_tool.specs.declared.run_script.RunScript.{RunScript}
use Rattle.blob_tool.specs.declared.status.Status.{Status}
use Rattle.blob_tool.specs.declared.status.Status.TheVariants as status
use Rattle.blob_tool.proofs.Complete.{done_from}
use Rattle.blob_tool.proofs.Ending.{of_a_run}

-- no status of a run is one of words
no_usage_of : {D : Type 0} (d : disk.Ghosts D) (commands : List (List Command)) (drive : Drive) (from : RunScript) {K : Type 0}
    (k : sink.Ghosts K) (out out_now : K) (back : D) (first : StoreView D) (st : Status)
    → Ended d commands drive from k out out_now back first st ⊎ EndedInRepair d k out out_now back first st
    → is_usage st ≡ false
no_usage_of d commands drive from k out out_now back first status.Usage (inl never) = absurd never
no_usage_of d commands drive from k out out_now back first status.Usage (inr never) = absurd never
no_usage_of d commands drive from k out out_now back first status.Good x = refl
no_usage_of d commands drive from k out out_now back first status.OutWrite x = refl
no_usage_of d commands drive from k out out_now back first status.Memory x = refl
no_usage_of d commands drive from k out out_now back first status.ScriptRead x = refl
no_usage_of d commands drive from k out out_now back first (status.Device at) x = refl
no_usage_of d commands drive from k out out_now back first (status.Image fault) x = refl
no_usage_of d commands drive from k out out_now back first (status.Script line kind) x = refl

module _ {S : Type 0} (s : source.Ghosts S) (script script_now : S) {D : Type 0} (d : disk.Ghosts D) {K : Type 0}
    (k : sink.Ghosts K) (out out_now : K) (before back : D) (from : RunScript) (drive : Drive) (quick : Bool)
    (plant : WithOpening D) (ready : IsReady s script script_now d before from quick plant) (left : WithOpening D)
    (same : left.opening ≡ plant.opening) where
  -- it is read as it was when it was ready
  pub reads_left : ReadsAs d quick left.opening.super (base_of left.opening.metas left.opening.marked)
      (map.get left.opening.chains) left.opening.disk
  reads_left = subst (λ (p : StoreView D). ReadsAs d quick p.super (base_of p.metas p.marked) (map.get p.chains) p.disk)
      (sym same) ready.mended.read

  -- where nothing was done no job runs
  pub no_job_left : (end : RunEnd) → (end ≡ Memory → left ≡ plant) → end ≡ Memory → left.at.job ≡ None
  no_job_left end none is =
      subst (λ (p : WithOpening D). p.at.job ≡ None) (sym (none is)) ready.mended.made.no_job

  module _ (end : RunEnd) (st : Status) (follows : FollowsDrive d drive plant.at left.at)
      (none : end ≡ Memory → left ≡ plant) (finishes : Finishes d from k out out_now back left end st) where
    ended : Ended d ready.commands drive from k out out_now back plant.opening st
        ⊎ EndedInRepair d k out out_now back plant.opening st
    ended = subst (λ (first : StoreView D). Ended d ready.commands drive from k out out_now back first st
        ⊎ EndedInRepair d k out out_now back first st) same
        (finishes ready.commands drive plant.at
        (subst (λ (first : StoreView D). AreRows ready.commands first.rows) (sym same) ready.mended.opened.rows)
        (subst (λ (first : StoreView D). AreMade d first plant.at) (sym same) ready.mended.made)
        ready.mended.unstopped ready.mended.unmarked follows (λ is. ap (λ (p : WithOpening D). p.at) (none is)))

    from_loaded : EndedFrom d ready.commands drive from k out out_now back ready.loaded st
    from_loaded = inl (plant.opening, ready.mended.opened, ended)

    -- what it came to is the outcome of the call
    pub of_a_ready_store : Outcome s script script_now d k out out_now before back from drive st
    of_a_ready_store =
        of_a_run s script script_now d k out out_now before back from drive ready.commands ready.loaded st
        ready.script_is (λ first opened. record { found = ready.found; opened = opened }) ready.found.same from_loaded

    -- where nothing fails it is done
    pub done_when_ready : NothingFails s script script_now d k out out_now before back from → IsRunDone st
    done_when_ready fails =
        done_from s script script_now d k out out_now before back from fails ready.loaded ready.found.same
        ready.commands drive st (λ first opened. record {
          script_is = ready.script_is;
          loaded = ready.loaded;
          as_found = record { found = ready.found; opened = opened };
        }) from_loaded

    -- and its status is none of words
    pub no_usage_when_ready : is_usage st ≡ false
    no_usage_when_ready =
        no_usage_of d ready.commands drive from k out out_now back plant.opening st ended
