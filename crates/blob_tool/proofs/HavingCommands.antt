-- The script that is run can't be had, or it can.
use Rattle.std.proofs.Common.{◌≡◌, ◌∙◌, List, refl, sym, ap, inl, inr, arith, false, true}
use Rattle.page_disk.specs.declared.disk.PageDisk as disk
use Rattle.volume_model.specs.declared.command.Command.{Command}
use Rattle.md_chain.specs.Reading.{OnlyRead}
use Rattle.script_lang.specs.Script.{reads}
use Rattle.blob_tool.specs.declared.driving.Drive.{Drive}
use Rattle.streams.specs.declared.source.Source as source
use Rattle.streams.specs.declared.sink.Sink as sink
use Rattle.blob_tool.specs.Outcome.{CanBeHad, HasCommands, HasNoCommands, Outcome}
use Rattle.blob_tool.specs.RunScripts.{IsGenerated}
use Rattle.blob_tool.specs.Statuses.{comes_without_script, is_usage, IsRunDone}
use Rattle.blob_tool.specs.declared.generate_words.GeneratedScript.{GeneratedScript}
use Rattle.blob_tool.specs.declared.run_script.RunScript.{RunScript}
use Rattle.blob_tool.specs.declared.run_script.RunScript.TheVariants.{Generated, Given}
use Rattle.blob_tool.specs.declared.status.Status.{Status}
use Rattle.blob_tool.specs.declared.status.Status.TheVariants as status

-- one that can be had lacks nothing but memory
pub only_memory : {S : Type 0} (s : source.Ghosts S) (script script_now : S) (from : RunScript) (st : Status)
    → CanBeHad s script script_now from → HasNoCommands s script script_now from st → IsRunDone st
only_memory s script script_now Given status.Memory can why = tt
only_memory s script script_now Given status.ScriptRead can why = absurd (can.quiet why)
only_memory s script script_now Given (status.Script line kind) can (inl bad) =
    let none = sym can.reads_as ∙ ap reads (sym (bad.is_text.all can.tells)) ∙ bad.no_script in absurd (cc none)
only_memory s script script_now Given (status.Script line kind) can (inr long) =
    let high = long.long can.tells in absurd (omega (arith, high, can.small))
only_memory s script script_now Given status.Good can why = absurd why
only_memory s script script_now Given status.Usage can why = absurd why
only_memory s script script_now Given (status.Image fault) can why = absurd why
only_memory s script script_now Given status.OutWrite can why = absurd why
only_memory s script script_now Given (status.Device at) can why = absurd why
only_memory s script script_now (Generated drawn) status.Memory can why = tt
only_memory s script script_now (Generated drawn) status.ScriptRead can why = absurd why
only_memory s script script_now (Generated drawn) (status.Script line kind) can why = absurd why
only_memory s script script_now (Generated drawn) status.Good can why = absurd why
only_memory s script script_now (Generated drawn) status.Usage can why = absurd why
only_memory s script script_now (Generated drawn) (status.Image fault) can why = absurd why
only_memory s script script_now (Generated drawn) status.OutWrite can why = absurd why
only_memory s script script_now (Generated drawn) (status.Device at) can why = absurd why

-- where it can't, nothing is done
pub without_commands : {S : Type 0} (s : source.Ghosts S) (script script_now : S) {D : Type 0} (d : disk.Ghosts D)
    {K : Type 0} (k : sink.Ghosts K) (out : K) (before : D) → OnlyRead d before before → (from : RunScript)
    (drive : Drive) (st : Status) → HasNoCommands s script script_now from st
    → Outcome s script script_now d k out out before before from drive st
without_commands s script script_now d k out before same Given drive (status.Script line kind) why =
    (refl, (record { quiet = refl; device = refl }, why))
without_commands s script script_now d k out before same Given drive status.ScriptRead why =
    (refl, (record { quiet = refl; device = refl }, why))
without_commands s script script_now d k out before same Given drive status.Memory why =
    inr (inl (record { quiet = refl; device = same }))
without_commands s script script_now d k out before same Given drive status.Good why = absurd why
without_commands s script script_now d k out before same Given drive status.Usage why = absurd why
without_commands s script script_now d k out before same Given drive (status.Image fault) why = absurd why
without_commands s script script_now d k out before same Given drive status.OutWrite why = absurd why
without_commands s script script_now d k out before same Given drive (status.Device at) why = absurd why
without_commands s script script_now d k out before same (Generated drawn) drive status.Memory why =
    inr (inl (record { quiet = refl; device = same }))
without_commands s script script_now d k out before same (Generated drawn) drive (status.Script line kind) why =
    absurd why
without_commands s script script_now d k out before same (Generated drawn) drive status.ScriptRead why = absurd why
without_commands s script script_now d k out before same (Generated drawn) drive status.Good why = absurd why
without_commands s script script_now d k out before same (Generated drawn) drive status.Usage why = absurd why
without_commands s script script_now d k out before same (Generated drawn) drive (status.Image fault) why =
    absurd why
without_commands s script script_now d k out before same (Generated drawn) drive status.OutWrite why = absurd why
without_commands s script script_now d k out before same (Generated drawn) drive (status.Device at) why = absurd why

-- and none of the statuses of words comes of it
pub no_usage : {S : Type 0} (s : source.Ghosts S) (script script_now : S) (from : RunScript) (st : Status)
    → HasNoCommands s script script_now from st → is_usage st ≡ false
no_usage s script script_now Given status.Memory why = refl
no_usage s script script_now Given status.ScriptRead why = refl
no_usage s script script_now Given (status.Script line kind) why = refl
no_usage s script script_now Given status.Good why = refl
no_usage s script script_now Given status.Usage why = absurd why
no_usage s script script_now Given (status.Image fault) why = refl
no_usage s script script_now Given status.OutWrite why = refl
no_usage s script script_now Given (status.Device at) why = refl
no_usage s script script_now (Generated drawn) status.Memory why = refl
no_usage s script script_now (Generated drawn) status.ScriptRead why = refl
no_usage s script script_now (Generated drawn) (status.Script line kind) why = refl
no_usage s script script_now (Generated drawn) status.Good why = refl
no_usage s script script_now (Generated drawn) status.Usage why = absurd why
no_usage s script script_now (Generated drawn) (status.Image fault) why = refl
no_usage s script script_now (Generated drawn) status.OutWrite why = refl
no_usage s script script_now (Generated drawn) (status.Device at) why = refl

-- for a generated script the source isn't read
pub unread : {S : Type 0} (s : source.Ghosts S) (script script_now : S) (from : RunScript)
    (commands : List (List Command)) → HasCommands s script script_now from commands → IsGenerated from
    → script_now ≡ script
unread s script script_now Given commands had never = absurd never
unread s script script_now (Generated drawn) commands had is = had.1

-- also where it can't be had
pub unread_without : {S : Type 0} (s : source.Ghosts S) (script script_now : S) (from : RunScript) (st : Status)
    → HasNoCommands s script script_now from st → IsGenerated from → script_now ≡ script
unread_without s script script_now Given st why never = absurd never
unread_without s script script_now (Generated drawn) status.Memory why is = why
unread_without s script script_now (Generated drawn) status.ScriptRead why is = absurd why
unread_without s script script_now (Generated drawn) (status.Script line kind) why is = absurd why
unread_without s script script_now (Generated drawn) status.Good why is = absurd why
unread_without s script script_now (Generated drawn) status.Usage why is = absurd why
unread_without s script script_now (Generated drawn) (status.Image fault) why is = absurd why
unread_without s script script_now (Generated drawn) status.OutWrite why is = absurd why
unread_without s script script_now (Generated drawn) (status.Device at) why is = absurd why

-- a generated script has no fault
pub no_script_fault : {S : Type 0} (s : source.Ghosts S) (script script_now : S) {D : Type 0} (d : disk.Ghosts D)
    {K : Type 0} (k : sink.Ghosts K) (out out_now : K) (before back : D) (drawn : GeneratedScript)
    (drive : Drive) (st : Status)
    → Outcome s script script_now d k out out_now before back (Generated drawn) drive st → is_usage st ≡ false
    → comes_without_script st ≡ true
no_script_fault s script script_now d k out out_now before back drawn drive status.Good x other = refl
no_script_fault s script script_now d k out out_now before back drawn drive status.OutWrite x other = refl
no_script_fault s script script_now d k out out_now before back drawn drive (status.Image fault) x other = refl
no_script_fault s script script_now d k out out_now before back drawn drive (status.Device at) x other = refl
no_script_fault s script script_now d k out out_now before back drawn drive status.Memory x other = refl
no_script_fault s script script_now d k out out_now before back drawn drive status.Usage x other = absurd (cc other)
no_script_fault s script script_now d k out out_now before back drawn drive (status.Script line kind) x other =
    absurd (cc x.0)
no_script_fault s script script_now d k out out_now before back drawn drive status.ScriptRead x other =
    absurd (cc x.0)
