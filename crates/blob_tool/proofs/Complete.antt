-- A run in which nothing fails is printed whole, or memory runs out.
use Rattle.std.proofs.Common.{◌≡◌, List, sym, subst, ap, ◌∙◌, inl, inr}
use Rattle.page_disk.specs.Disk.{Rose}
use Rattle.page_disk.specs.declared.disk.PageDisk as disk
use Rattle.streams.specs.declared.source.Source as source
use Rattle.streams.specs.declared.sink.Sink as sink
use Rattle.volume_model.specs.declared.command.Command.{Command}
use Rattle.md_chain.specs.Reading.{OnlyRead}
use Rattle.running_store.specs.declared.loaded.Loaded.{Loaded}
use Rattle.running_store.specs.StoreView.{StoreView}
use Rattle.blob_tool.specs.declared.driving.Drive.{Drive}
use Rattle.store_core.specs.Opening.{IsOpened}
use Rattle.unclean_load.specs.declared.fault.LoadFault.TheVariants as fault
use Rattle.blob_tool.specs.Outcome.{NothingFails, Started}
use Rattle.blob_tool.specs.Repairing.{EndedInRepair}
use Rattle.blob_tool.specs.Runs.{Ended, EndedFrom}
use Rattle.blob_tool.specs.Statuses.{IsRunDone}
use Rattle.blob_tool.specs.declared.run_script.RunScript.{RunScript}
use Rattle.blob_tool.specs.declared.status.Status.{Status}
use Rattle.blob_tool.specs.declared.status.Status.TheVariants as status

module _ {S : Type 0} (s : source.Ghosts S) (script script_now : S) {D : Type 0} (d : disk.Ghosts D) {K : Type 0}
    (k : sink.Ghosts K) (out out_now : K) (before back : D) (from : RunScript)
    (fails : NothingFails s script script_now d k out out_now before back from) (first : StoreView D)
    (counts : d.write_faults first.disk ≡ d.write_faults before) where
  -- no write or flush failed since the store was opened
  no_fault : Rose (d.write_faults first.disk) (d.write_faults back) → ⊥
  no_fault rose = fails.writing (subst (λ n. Rose n (d.write_faults back)) counts rose)

  -- a run behind the repairs
  pub run_done : (commands : List (List Command)) (drive : Drive) (st : Status)
      → Ended d commands drive from k out out_now back first st → IsRunDone st
  run_done commands drive status.Good ended = tt
  run_done commands drive status.Memory ended = tt
  run_done commands drive status.OutWrite ended = absurd (fails.sink ended.2)
  run_done commands drive (status.Device at) ended = absurd (elim ended.1 [
    | inl stopped ↦ no_fault (subst (λ (x : D). Rose (d.write_faults first.disk) (d.write_faults x)) (sym stopped.1)
        (ended.0.run.counted at stopped.0))
    | inr closed ↦ no_fault (subst (λ n. Rose n (d.write_faults back)) (ended.0.run.uncounted closed.0) closed.2)
  ])
  run_done commands drive status.Usage ended = absurd ended
  run_done commands drive (status.Script line kind) ended = absurd ended
  run_done commands drive (status.Image why) ended = absurd ended
  run_done commands drive status.ScriptRead ended = absurd ended

  -- the repairs
  pub repairs_done : (commands : List (List Command))
      → Started s script script_now d k out out_now before back from commands first → (st : Status)
      → EndedInRepair d k out out_now back first st → IsRunDone st
  repairs_done commands started status.Memory ended = tt
  repairs_done commands started (status.Device at) ended = absurd (no_fault ended.3)
  repairs_done commands started (status.Image (fault.NoRoom head has wants)) ended =
      absurd (fails.room commands first started ended.0.last ended.0.made.run ended.1 head has wants ended.2)
  repairs_done commands started (status.Image _) ended = absurd ended
  repairs_done commands started status.Good ended = absurd ended
  repairs_done commands started status.OutWrite ended = absurd ended
  repairs_done commands started status.Usage ended = absurd ended
  repairs_done commands started (status.Script line kind) ended = absurd ended
  repairs_done commands started status.ScriptRead ended = absurd ended

-- whatever a run from a loaded store came to
pub done_from : {S : Type 0} (s : source.Ghosts S) (script script_now : S) {D : Type 0} (d : disk.Ghosts D)
    {K : Type 0} (k : sink.Ghosts K) (out out_now : K) (before back : D) (from : RunScript)
    → NothingFails s script script_now d k out out_now before back from → (loaded : Loaded D)
    → OnlyRead d before loaded.disk
    → (commands : List (List Command)) (drive : Drive) (st : Status)
    → ((first : StoreView D) → IsOpened d loaded commands first
    → Started s script script_now d k out out_now before back from commands first)
    → EndedFrom d commands drive from k out out_now back loaded st → IsRunDone st
done_from s script script_now {D} d k out out_now before back from fails loaded same commands drive st starts
    (inl x) =
    let disk : x.0.disk ≡ loaded.disk = ap (λ (p : StoreView D). p.disk) x.1.at in
    let counts : d.write_faults x.0.disk ≡ d.write_faults before = ap d.write_faults disk ∙ same.write_faults in
    elim x.2 [
      | inl ended ↦
          run_done s script script_now d k out out_now before back from fails x.0 counts commands drive st ended
      | inr ended ↦
          repairs_done s script script_now d k out out_now before back from fails x.0 counts commands
          (starts x.0 x.1) st ended
    ]
done_from s script script_now d k out out_now before back from fails loaded same commands drive st starts (inr x) =
    subst IsRunDone (sym x.0) tt
