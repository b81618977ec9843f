-- What a run came to, by what was printed of its log.
use Rattle.std.proofs.Common.{
  ◌≡◌,
  Bool,
  ℕ,
  ◌++◌,
  length,
  Option,
  Some,
  None,
  Result,
  Ok,
  Err,
  OnOk,
  IsTrue,
  List,
  refl,
  sym,
  subst,
}
use Rattle.std.proofs.Common.{◌∙◌, inl, inr}
use Rattle.page_disk.specs.Disk.{Rose}
use Rattle.page_disk.specs.declared.disk.PageDisk as disk
use Rattle.streams.specs.declared.source.Source as source
use Rattle.streams.specs.declared.sink.Sink as sink
use Rattle.blob_tool.specs.declared.status.Status.{Status}
use Rattle.blob_tool.specs.declared.status.Status.TheVariants as status
use Rattle.volume_model.specs.declared.command.Command.{Command}
use Rattle.md_chain.specs.Reading.{OnlyRead}
use Rattle.running_store.specs.declared.loaded.Loaded.{Loaded}
use Rattle.store_core.specs.Opening.{IsOpened}
use Rattle.running_store.specs.StoreView.{StoreView, state_of}
use Rattle.blob_tool.specs.Found.{HasSoundImage}
use Rattle.unclean_load.specs.declared.fault.LoadFault.{LoadFault}
use Rattle.unclean_load.specs.declared.fault.LoadFault.TheVariants as loading
use Rattle.unclean_load.specs.Accepted.{IsImageFault}
use Rattle.unclean_load.specs.Reading.{IsOnlyFault}
use Rattle.streams.specs.declared.printing.PrintFault.{PrintFault}
use Rattle.streams.specs.declared.printing.PrintFault.TheVariants as printing
use Rattle.blob_tool.specs.Statuses.{of_loading, of_run}
use Rattle.blob_tool.specs.Runs.{Ended, EndedFrom, IsLoaded, Played}
use Rattle.blob_tool.specs.Closing.{Closes, IsClosed}
use Rattle.running_store.specs.Running.{super_left}
use Rattle.blob_tool.specs.Surviving.{IsLasting}
use Rattle.store_model.specs.StoreState.{shown}
use Rattle.blob_tool.specs.declared.driving.Drive.{Drive}
use Rattle.blob_tool.specs.Outcome.{EndedRepairing, HasScript, Outcome, RanTo}
use Rattle.blob_tool.specs.Untouched.{IsRefused, NothingWritten}
use Rattle.blob_tool.specs.Outcome.{HasCommands, Started}
use Rattle.blob_tool.specs.RunScripts.{printed_text}
use Rattle.blob_tool.specs.declared.run_script.RunScript.{RunScript}

module _ {D : Type 0} (d : disk.Ghosts D) (script : List (List Command)) (drive : Drive) (from : RunScript)
    {K : Type 0} (k : sink.Ghosts K) (out out_now : K) (back : D) (first : StoreView D) where
  -- how a run ended, by where it stopped or was closed and how much was printed
  pub ends : (p : Played d script drive from k out out_now back first) (quick : Bool) (stopped ended : Option ℕ)
      (printed : Result (Unit {0}) PrintFault) → p.last.stopped ≡ stopped
      → Closes d (super_left p.last.clean p.last.super) p.masks p.last.disk back quick (length p.last.log) stopped ended
      → (IsClosed d (super_left p.last.clean p.last.super) p.masks p.last.disk back quick → p.last.stopped ≡ None
      → HasSoundImage d first.disk → IsLasting d first.super (shown (state_of d first)) p.last back)
      → (IsTrue k.tells → OnOk printed (k.written out_now ≡ k.written out ++ printed_text from p.last.log))
      → (printed ≡ Err printing.Sink → Rose (k.faults out) (k.faults out_now))
      → Ended d script drive from k out out_now back first (of_run ended printed)
  ends p quick stopped ended (Err printing.Memory) is closes lasts whole rose = p
  ends p quick None None (Err printing.Sink) is closes lasts whole rose = (p, (is, lasts closes is), rose refl)
  ends p quick None None (Ok done) is closes lasts whole rose = (p, (is, lasts closes is), whole)
  ends p quick None (Some at) (Err printing.Sink) is closes lasts whole rose =
      (p, inr (is, closes.0, closes.2), inr (rose refl))
  ends p quick None (Some at) (Ok done) is closes lasts whole rose = (p, inr (is, closes.0, closes.2), inl whole)
  ends p quick (Some at) None printed is closes lasts whole rose = absurd (cc closes.0)
  ends p quick (Some at) (Some end) (Err printing.Sink) is closes lasts whole rose =
      (p, inl (is ∙ sym closes.0, closes.1), inr (rose refl))
  ends p quick (Some at) (Some end) (Ok done) is closes lasts whole rose =
      (p, inl (is ∙ sym closes.0, closes.1), inl whole)

module _ {S : Type 0} (s : source.Ghosts S) (script script_now : S) {D : Type 0} (d : disk.Ghosts D) {K : Type 0}
    (k : sink.Ghosts K) (out out_now : K) (before back : D) (from : RunScript) (drive : Drive) where
  -- what a run came to is the outcome of the call
  ran_to : (st : Status) → RanTo s script script_now d k out out_now before back from drive st
      → Outcome s script script_now d k out out_now before back from drive st
  ran_to status.Good ran = ran
  ran_to status.OutWrite ran = ran
  ran_to (status.Device at) ran = inl ran
  ran_to status.Memory ran = inl ran
  ran_to status.Usage ran = absurd ran.ended
  ran_to (status.Script line kind) ran = absurd ran.ended
  ran_to (status.Image fault) ran = absurd ran.ended
  ran_to status.ScriptRead ran = absurd ran.ended

  -- and so is what repairs came to
  in_repair : (st : Status) → EndedRepairing s script script_now d k out out_now before back from st
      → Outcome s script script_now d k out out_now before back from drive st
  in_repair (status.Device at) x = inr (inr x)
  in_repair status.Memory x = inr (inr x)
  in_repair (status.Image (loading.NoRoom head has wants)) x = x
  in_repair (status.Image _) x = absurd x.ended
  in_repair status.Good x = absurd x.ended
  in_repair status.OutWrite x = absurd x.ended
  in_repair status.Usage x = absurd x.ended
  in_repair (status.Script line kind) x = absurd x.ended
  in_repair status.ScriptRead x = absurd x.ended

  -- what a run from the loaded store came to is the outcome of the call
  pub of_a_run : (commands : List (List Command)) (loaded : Loaded D) (st : Status)
      → HasCommands s script script_now from commands
      → ((first : StoreView D) → IsOpened d loaded commands first → IsLoaded d commands before loaded first)
      → OnlyRead d before loaded.disk
      → EndedFrom d commands drive from k out out_now back loaded st → Outcome s script script_now d k out out_now
      before back from drive st
  of_a_run commands loaded st reads opens same (inl x) =
      let started : Started s script script_now d k out out_now before back from commands x.0 =
      record { script_is = reads; loaded = loaded; as_found = opens x.0 x.1 } in
      elim x.2 [
        | inl ended ↦ ran_to st (record { commands = commands; first = x.0; started = started; ended = ended })
        | inr ended ↦ in_repair st (record { commands = commands; first = x.0; started = started; ended = ended })
      ]
  of_a_run commands loaded st reads opens same (inr x) =
      subst (Outcome s script script_now d k out out_now before back from drive) (sym x.0)
      (inr (inl (record { quiet = x.1; device = subst (OnlyRead d before) (sym x.2) same })))

  -- a store that wasn't loaded
  pub of_a_fault : (fault : LoadFault) → NothingWritten d before out out_now back
      → HasScript s script script_now d k out out_now before back from
      → IsOnlyFault (d.read_faults before) (d.read_faults back) fault
      → (IsImageFault fault → d.read_faults back ≡ d.read_faults before → IsRefused d before back fault)
      → Outcome s script script_now d k out out_now before back from drive (of_loading fault)
  of_a_fault loading.ReadFault stays script counted refused = inr (inl (stays, script, refl, counted))
  of_a_fault loading.Memory stays script counted refused = inr (inl stays)
  of_a_fault (loading.Super why) stays script counted refused = (stays, script, refused tt counted)
  of_a_fault (loading.Chain head why) stays script counted refused = (stays, script, refused tt counted)
  of_a_fault (loading.Meta head why) stays script counted refused = (stays, script, refused tt counted)
  of_a_fault (loading.MapsTooLarge slots) stays script counted refused = (stays, script, refused tt counted)
  of_a_fault (loading.NoParentBlob blob parent) stays script counted refused = (stays, script, refused tt counted)
  of_a_fault (loading.WritableParent blob parent) stays script counted refused = (stays, script, refused tt counted)
  of_a_fault (loading.ParentLoop blob) stays script counted refused = (stays, script, refused tt counted)
  of_a_fault (loading.Shared cluster a b) stays script counted refused = (stays, script, refused tt counted)
  of_a_fault (loading.NoRoom head has wants) stays script counted refused = absurd counted
