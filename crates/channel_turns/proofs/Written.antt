-- What a channel's write of a page in place makes of the store.
use Rattle.std.proofs.Common.{Some, None, false, true, Bool, ◌≡◌, ℕ, ◌<◌, List, ◌∷◌, length, refl, sym, ◌∙◌, ap, subst}
use Rattle.std.specs.Prelude.{if◌then◌else◌}
use Rattle.page_disk.specs.Disk.{Image, Written}
use Rattle.page_disk.specs.Moments.{CallsLeaveOnly}
use Rattle.page_disk.specs.declared.disk.PageDisk.{Ghosts}
use Rattle.page_disk.specs.declared.disk.WriteKind.TheVariants.{Plain}
use Rattle.volume_model.specs.Volumes.{page_of, zero_page}
use Rattle.volume_model.specs.declared.command.Command.{Command}
use Rattle.volume_model.specs.declared.command.Command.TheVariants as c
use Rattle.volume_model.specs.declared.reply.Reply.TheVariants as r
use Rattle.store_model.specs.Cases.{FailsToReplace, WritesOnePage}
use Rattle.store_model.specs.Cases as kind
use Rattle.store_model.specs.Rows.{Idle, Row}
use Rattle.store_model.specs.StoreState.{logged_here, StoreState}
use Rattle.store_model.specs.Touches.{puts, Touched}
use Rattle.channel_turns.specs.ChannelTurns.{IsOfWrite, WritesNow}
use Rattle.running_store.proofs.Thawed.{state_stopped}
use Rattle.channel_turns.proofs.Thawed.{IsThawed}
use Rattle.running_store.specs.Steps.{stopped_here}
use Rattle.running_store.specs.TurnMade.{TurnsAs}
use Rattle.running_store.specs.StoreView.{device_of, rows_of, state_of, StoreView}
use Rattle.running_store.proofs.Entered.{disk_same_then, entered_then}
use Rattle.channel_turns.proofs.FirstCommand.{IsLogged}

-- of a device that doesn't tell zeros stand for all pages
pub blank : (tells : Bool) (now : Image) → tells ≡ false → (n : ℕ)
    → (if tells then now else (λ page. zero_page)) n ≡ zero_page
blank true now is n = absurd (cc is)
blank false now is n = refl

module _ {D : Type 0} (d : Ghosts D) (p : StoreView D) (channel place : ℕ) (content : List ℕ)
    (w : WritesNow d p channel place content) (low : channel < length p.rows) (disk : D)
    (moments : CallsLeaveOnly d p.disk disk (Written (d.images p.disk) place Plain content))
    (pages : d.pages disk ≡ d.pages p.disk) (q : StoreView D) where
  abbrev command : Command
  command = c.Write w.at.volume w.at.page w.at.word

  row_is : rows_of p.rows channel ≡ record { left = command ∷ w.at.rest; stage = Idle; claim = None }
  row_is = ap (rows_of p.rows) (sym w.channel_is) ∙ w.at.row

  left : (rows_of p.rows channel).left ≡ command ∷ w.at.rest
  left = ap (λ (x : Row). x.left) row_is

  moments_there : CallsLeaveOnly d p.disk disk (Written (d.images p.disk) w.at.place Plain (page_of w.at.word))
  moments_there = subst (λ n. CallsLeaveOnly d p.disk disk (Written (d.images p.disk) n Plain (page_of w.at.word)))
      (sym w.place_is) (subst (λ page. CallsLeaveOnly d p.disk disk (Written (d.images p.disk) place Plain page))
      (sym w.content_is) moments)

  touched : (x : D) → x ≡ disk → Touched d p.disk x (puts w.at.place (page_of w.at.word) false)
  touched x same = subst (λ (x : D). Touched d p.disk x (puts w.at.place (page_of w.at.word) false)) (sym same)
      (record { moments = moments_there; durable = λ never. absurd (cc never); pages = pages })

  -- the page is written
  pub written_made : WritesOnePage d.tells (device_of d p.disk) place content 1 (device_of d disk)
      → IsLogged Idle d (record p { disk = disk }) channel r.Ok q
      → TurnsAs d IsOfWrite p q
  written_made moves logged =
      let is = logged command w.at.rest left in
      let mid : StoreView D = record p { disk = disk } in
      record {
        kind = kind.writes_page;
        is = tt;
        made = (
          record {
            told_so = refl;
            blank = blank d.tells (d.now p.disk);
            at = w.at;
            device = device_of d disk;
            moves = subst
                (λ n. WritesOnePage d.tells (device_of d p.disk) n (page_of w.at.word) 1 (device_of d disk))
                (sym w.place_is)
                (subst (λ page. WritesOnePage d.tells (device_of d p.disk) place page 1 (device_of d disk))
                (sym w.content_is) moves);
            next = entered_then Idle d mid q channel command w.at.rest r.Ok low is
                ∙ ap (λ n. logged_here (state_of d p) n command w.at.rest r.Ok (device_of d disk)) (sym w.channel_is);
          },
          touched q.disk (disk_same_then Idle d mid q channel command w.at.rest r.Ok low is),
        );
      }

  -- the write failed
  pub write_failed : IsThawed p
      → FailsToReplace (Some place) (device_of d p.disk) (device_of d disk)
      → IsLogged Idle d (stopped_here (record p { disk = disk })) channel r.Fault q
      → TurnsAs d IsOfWrite p q
  write_failed thawed fails logged =
      let is = logged command w.at.rest left in
      let mid : StoreView D = stopped_here (record p { disk = disk }) in
      record {
        kind = kind.fails_to_write;
        is = tt;
        made = (
          record {
            at = w.at;
            device = device_of d disk;
            fails = subst (λ n. FailsToReplace (Some n) (device_of d p.disk) (device_of d disk)) (sym w.place_is)
                fails;
            next = entered_then Idle d mid q channel command w.at.rest r.Fault low is
                ∙ ap (λ (a : StoreState). logged_here a channel command w.at.rest r.Fault (device_of d disk))
                (state_stopped d (record p { disk = disk }) thawed)
                ∙ ap (λ n. logged_here (record (state_of d p) {
                  stopped = Some (length p.log);
                  frozen = λ head. false;
                }) n command w.at.rest r.Fault (device_of d disk)) (sym w.channel_is);
          },
          touched q.disk (disk_same_then Idle d mid q channel command w.at.rest r.Fault low is),
        );
      }
