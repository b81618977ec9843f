-- Behind each turn no claim is wanted that wasn't before it.
use Rattle.std.proofs.Common.{◌≡◌, ◌⊎◌, ℕ, Bool, refl, inl, inr}
use Rattle.volume_model.specs.declared.reply.Reply.{Reply}
use Rattle.store_model.specs.Cases.{Kind, Turn}
use Rattle.store_model.specs.Cases as k
use Rattle.store_model.specs.Cases.BreakDown.{IsUnlogged, WasLogged}
use Rattle.store_model.specs.Claiming.{LogsWork}
use Rattle.store_model.specs.Device.{Device}
use Rattle.store_model.specs.Rows.{Stage}
use Rattle.store_model.specs.StoreState.{JobState, StoreState}
use Rattle.store_model.proofs.GivenBack.{logged_work}
use Rattle.store_model.proofs.Known.{Known}
use Rattle.insert_runs.proofs.PutInSlots.{inserts_want}
use Rattle.insert_runs.proofs.Wanted.{commits_want, more_wants, same_blobs, WantsNoMore}

-- the command that a row works for is logged
work_logged : (p : StoreState) {o : StoreState} {row : ℕ} {stage : Stage} {reply : Reply} {d : Device} {q : StoreState}
    → LogsWork o row stage reply d q → o.base ≡ p.base → o.generations ≡ p.generations → o.drawn ≡ p.drawn
    → WantsNoMore p q
work_logged p logs base generations drawn = same_blobs p (logged_work logs).next base generations drawn

-- a job is broken off on a stopped store
broken : {p q : StoreState} {job : JobState} {at : ℕ} → IsUnlogged p job at q ⊎ WasLogged p job q → WantsNoMore p q
broken {p} (inl t) = same_blobs p t.next refl refl refl
broken {p} (inr t) = same_blobs p t.next refl refl refl

module _ (known : Known) (told : Bool) (q : StoreState) where
  open known use {p}

  pub wants_no_more : (of : Kind) → Turn told p of q → WantsNoMore p q
  wants_no_more k.posts t = same_blobs p t.next refl refl refl
  wants_no_more k.answers t = same_blobs p t.next refl refl refl
  wants_no_more k.refuses t = same_blobs p t.next refl refl refl
  wants_no_more k.halts t = same_blobs p t.next refl refl refl
  wants_no_more k.settles t = same_blobs p t.next refl refl refl
  wants_no_more k.ends t = same_blobs p t.next refl refl refl
  wants_no_more k.begins t = same_blobs p t.next refl refl refl
  wants_no_more k.marks_dirty t = same_blobs p t.next refl refl refl
  wants_no_more k.zeroes t = same_blobs p t.next refl refl refl
  wants_no_more k.writes t = same_blobs p t.next refl refl refl
  wants_no_more k.commits t = commits_want known told q t
  wants_no_more k.erases t = same_blobs p t.next refl refl refl
  wants_no_more k.frees t = same_blobs p t.next refl refl refl
  wants_no_more k.fails t = same_blobs p t.next refl refl refl
  wants_no_more k.breaks_off t = same_blobs p t.next refl refl refl
  wants_no_more k.breaks_down t = broken t.ends
  wants_no_more k.begins_repair t = same_blobs p t.next refl refl refl
  wants_no_more k.replaces_more t = more_wants known told q t
  wants_no_more k.more_fails t = same_blobs p t.next refl refl refl
  wants_no_more k.more_breaks_off t = same_blobs p t.next refl refl refl
  wants_no_more k.flushes t = same_blobs p t.next refl refl refl
  wants_no_more k.flush_fails t = same_blobs p t.next refl refl refl
  wants_no_more k.reads t = same_blobs p t.next refl refl refl
  wants_no_more k.refuses_write t = same_blobs p t.next refl refl refl
  wants_no_more k.writes_page t = same_blobs p t.next refl refl refl
  wants_no_more k.fails_to_write t = same_blobs p t.next refl refl refl
  wants_no_more k.finds_empty t = same_blobs p t.next refl refl refl
  wants_no_more k.finds_filled t = same_blobs p t.next refl refl refl
  wants_no_more k.claims t = same_blobs p t.next refl refl refl
  wants_no_more k.refuses_claim t = same_blobs p t.next refl refl refl
  wants_no_more k.copies t = same_blobs p t.next refl refl refl
  wants_no_more k.loses_copy t = same_blobs p t.next refl refl refl
  wants_no_more k.copy_not_read t = work_logged p t.logs refl refl refl
  wants_no_more k.copy_fails t = work_logged p t.logs refl refl refl
  wants_no_more k.sends t = same_blobs p t.next refl refl refl
  wants_no_more k.loses_insert t = same_blobs p t.next refl refl refl
  wants_no_more k.lacks_for_insert t = work_logged p t.logs refl refl refl
  wants_no_more k.lacks_memory_for_insert t = work_logged p t.logs refl refl refl
  wants_no_more k.begins_insert t = same_blobs p t.next refl refl refl
  wants_no_more k.inserts t = inserts_want known told q t
  wants_no_more k.insert_ends t = same_blobs p t.next refl refl refl
  wants_no_more k.insert_fails t = work_logged p t.logs refl refl refl
  wants_no_more k.insert_breaks_down t = work_logged p t.logs refl refl refl
  wants_no_more k.claims_fill t = same_blobs p t.next refl refl refl
  wants_no_more k.lacks_for_fill t = same_blobs p t.next refl refl refl
  wants_no_more k.halts_fill t = same_blobs p t.next refl refl refl
  wants_no_more k.ends_fill t = same_blobs p t.next refl refl refl
