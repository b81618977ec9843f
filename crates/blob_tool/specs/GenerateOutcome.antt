-- What `generate` came to, by its status.
use Rattle.std.specs.Prelude.{◌≡◌, List, ℕ, ◌++◌, IsTrue}
use Rattle.page_disk.specs.Disk.{Rose}
use Rattle.script_lang.specs.Generated.{generated}
use Rattle.streams.specs.Printing.{IsPartOf}
use Rattle.streams.specs.declared.sink.Sink as sink
use Rattle.blob_tool.specs.declared.generate_words.GeneratedScript.{GeneratedScript}
use Rattle.blob_tool.specs.declared.status.Status.{Status}
use Rattle.blob_tool.specs.declared.status.Status.TheVariants as status

-- the text of the script that is asked for
abbrev pub script_text : GeneratedScript → List ℕ
script_text script = generated script.number script.size

module _ (script : GeneratedScript) {K : Type 0} (k : sink.Ghosts K) (out out_now : K) where
  -- the whole text was printed
  abbrev pub IsPrintedScript : Type 0
  IsPrintedScript = IsTrue k.tells → k.written out_now ≡ k.written out ++ script_text script

  -- a part of it was printed, from its beginning
  abbrev pub IsPartOfScript : Type 0
  IsPartOfScript = IsTrue k.tells → IsPartOf (k.written out) (k.written out_now) (script_text script)

  -- all was printed, or the sink failed, or memory ran out
  abbrev pub GenerateEnded : Status → Type 0
  GenerateEnded status.Good = IsPrintedScript
  GenerateEnded status.OutWrite = IsPartOfScript × Rose (k.faults out) (k.faults out_now)
  GenerateEnded status.Memory = IsPartOfScript
  GenerateEnded _ = ⊥
