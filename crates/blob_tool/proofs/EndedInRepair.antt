-- How a run ends with its repairs.
use Rattle.std.proofs.Common.{◌≡◌, ◌∙◌, Bool, false, List, [], length, Option, Some, None, IsTrue, refl, ap, subst}
use Rattle.std.specs.FinMap as map
use Rattle.page_disk.specs.Disk.{Rose, Telling}
use Rattle.page_disk.specs.declared.disk.PageDisk.{Ghosts}
use Rattle.volume_model.specs.declared.reply.Entry.{Entry}
use Rattle.store_core.specs.StoreInvariant.{StoreInvariant}
use Rattle.blob_meta.specs.Repairs.{HasNoMarks}
use Rattle.running_store.specs.StoreView.{base_of, state_of, StoreView, WithOpening}
use Rattle.store_model.specs.StateLaws.{StopLaws}
use Rattle.streams.specs.declared.sink.Sink as sink
use Rattle.blob_tool.specs.Found.{ReadsAs}
use Rattle.blob_tool.specs.Statuses.{is_usage}
use Rattle.blob_tool.specs.Repairing.{status_of_repairs, EndedInRepair, EndsRepairs, IsEndOfRepairs, Repaired}
use Rattle.blob_tool.specs.declared.repairing.RepairsEnd.{RepairsEnd}
use Rattle.blob_tool.specs.declared.repairing.RepairsEnd.TheVariants as end
use Rattle.blob_tool.specs.declared.status.Status.{Status}
use Rattle.blob_tool.proofs.RunSurvives.{LoadLaws, survives_alone}

module _ {D : Type 0} (d : Ghosts D) (laws : LoadLaws) (law : IsTrue d.tells → Telling d.now d.images d.since d.clock)
    (stops : StopLaws) (b : WithOpening D) (kept : StoreInvariant d b) (quick : Bool)
    (read : ReadsAs d quick b.opening.super (base_of b.opening.metas b.opening.marked) (map.get b.opening.chains)
    b.opening.disk) {K : Type 0} (k : sink.Ghosts K) (out : K) where
  abbrev first : StoreView D
  first = b.opening

  unlogged : (how : RepairsEnd) → EndsRepairs d first b.at how → b.at.log ≡ []
  unlogged how ends = ends.made.unlogged ∙ kept.began.log

  repaired : (how : RepairsEnd) → EndsRepairs d first b.at how → Repaired d k out out b.at.disk first
  repaired how ends = record {
    last = b.at;
    made = ends.made;
    device = refl;
    pages = kept.pages;
    quiet = refl;
    unlogged = unlogged how ends;
    survives = survives_alone d laws law b kept quick read;
  }

  abbrev IsEnded : Option Status → Type 0
  IsEnded None = ⊥
  IsEnded (Some st) = EndedInRepair d k out out b.at.disk first st

  -- what repairs that leave no run came to
  pub ended_in_repair : (how : RepairsEnd) (st : Status) → status_of_repairs how ≡ Some st
      → EndsRepairs d first b.at how → EndedInRepair d k out out b.at.disk first st
  unfolding repaired
  ended_in_repair end.Repaired st is ends = absurd (cc is)
  ended_in_repair end.Stopped st is ends =
      let halted : b.at.stopped ≡ Some 0 =
      ends.ended ∙ ap (λ (log : List Entry). Some (length log)) (unlogged end.Stopped ends) in
      subst IsEnded is
      (repaired end.Stopped ends, refl, halted, counted halted)
    where
      counted : b.at.stopped ≡ Some 0 → Rose (d.write_faults first.disk) (d.write_faults b.at.disk)
      counted halted = stops.counted d.tells (state_of d first) (state_of d b.at) kept.run.0 0 kept.run.1
          kept.began.stopped halted
  ended_in_repair (end.NoRoom head has wants) st is ends =
      subst IsEnded is (repaired (end.NoRoom head has wants) ends, ends.ended.0, ends.ended.1)
  ended_in_repair end.Memory st is ends =
      subst IsEnded is (repaired end.Memory ends, ends.ended)

-- where a run follows, no repair is left
pub none_left : {D : Type 0} (d : Ghosts D) (q : StoreView D) (how : RepairsEnd) → status_of_repairs how ≡ None
    → IsEndOfRepairs d q how → (q.stopped ≡ None) × HasNoMarks (base_of q.metas q.marked)
none_left d q end.Repaired is ended = ended
none_left d q end.Stopped is ended = absurd (cc is)
none_left d q (end.NoRoom head has wants) is ended = absurd (cc is)
none_left d q end.Memory is ended = absurd (cc is)

abbrev IsNoUsage : Option Status → Type 0
IsNoUsage None = Unit {0}
IsNoUsage (Some st) = is_usage st ≡ false

-- no status of repairs is one of words
pub no_usage_of_repairs : (how : RepairsEnd) (st : Status) → status_of_repairs how ≡ Some st → is_usage st ≡ false
no_usage_of_repairs end.Repaired st is = absurd (cc is)
no_usage_of_repairs end.Stopped st is = subst IsNoUsage is refl
no_usage_of_repairs (end.NoRoom head has wants) st is = subst IsNoUsage is refl
no_usage_of_repairs end.Memory st is = subst IsNoUsage is refl
