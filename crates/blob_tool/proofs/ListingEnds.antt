-- What a listing came to.
use Rattle.std.proofs.Common.{sym, subst}
use Rattle.page_disk.specs.declared.disk.PageDisk as disk
use Rattle.md_chain.specs.Reading.{OnlyRead}
use Rattle.streams.specs.declared.sink.Sink as sink
use Rattle.listing_text.specs.declared.format.ListFormat.{ListFormat}
use Rattle.blob_tool.specs.ListOutcome.{ListEnded}
use Rattle.blob_tool.specs.Loading.{IsNotLoaded}
use Rattle.blob_tool.specs.Untouched.{NothingWritten}
use Rattle.blob_tool.specs.declared.status.Status.{Status}
use Rattle.blob_tool.specs.declared.status.Status.TheVariants as status

module _ (format : ListFormat) {D : Type 0} (d : disk.Ghosts D) {K : Type 0} (k : sink.Ghosts K) (out out_now : K)
    (before back : D) where
  -- a store that wasn't loaded
  pub unlisted : (st : Status) → NothingWritten d before out out_now back → IsNotLoaded d before back st
      → ListEnded d before back k out out_now format st
  unlisted (status.Image fault) stays why = (stays, why)
  unlisted (status.Device at) stays why = (stays, why.0, why.1)
  unlisted status.Memory stays why = stays
  unlisted status.Good stays why = absurd why
  unlisted status.OutWrite stays why = absurd why
  unlisted status.Usage stays why = absurd why
  unlisted (status.Script line kind) stays why = absurd why
  unlisted status.ScriptRead stays why = absurd why

  -- whatever came of it, the device was only read
  pub only_read : (st : Status) → ListEnded d before back k out out_now format st → OnlyRead d before back
  only_read status.Good ended =
      subst (OnlyRead d before) (sym ended.listed.device) ended.listed.found.same
  only_read status.OutWrite ended =
      subst (OnlyRead d before) (sym ended.listed.device) ended.listed.found.same
  only_read (status.Image fault) ended = ended.0.device
  only_read (status.Device at) ended = ended.0.device
  only_read status.Memory ended = ended.device
  only_read status.Usage ended = absurd ended
  only_read (status.Script line kind) ended = absurd ended
  only_read status.ScriptRead ended = absurd ended
