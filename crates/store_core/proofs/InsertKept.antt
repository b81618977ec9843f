-- What is kept over the begin of an insert, and what a message that posts one tells.
use Rattle.std.proofs.Common.{◌≡◌, ℕ, ◌<◌, length, Option, Some, None, refl, subst, sym}
use Rattle.std.specs.Prelude.{IsSome}
use Rattle.page_disk.specs.declared.disk.PageDisk.{Ghosts}
use Rattle.volume_model.specs.declared.reply.Msg.{Msg}
use Rattle.store_model.specs.Cases as kind
use Rattle.store_model.specs.Rows.{Posted}
use Rattle.job_begins.specs.Inserts.{HoldsPosted, InsertsOrNot}
use Rattle.running_store.specs.GivingBack.{halting}
use Rattle.running_store.specs.Requests.{IsInsertPosted}
use Rattle.store_core.specs.StoreInvariant.{StoreInvariant}
use Rattle.running_store.specs.StoreView.{StoreView, WithOpening}
use Rattle.running_store.specs.TurnMade.{TurnMade}
use Rattle.job_begins.specs.declared.inserting.InsertTurn.{InsertTurn}
use Rattle.job_begins.specs.declared.inserting.InsertTurn.TheVariants as insert
use Rattle.running_store.proofs.Rowing.{low_of}
use Rattle.store_core.proofs.FirstCommand.{holds}

pub holds_posted : {D : Type 0} (d : Ghosts D) (p : WithOpening D) → StoreInvariant d p → (msg : Msg)
    → IsInsertPosted p.at.rows msg → HoldsPosted d p.at msg.channel
holds_posted d p kept msg is =
    record { serial = msg.serial; holds = holds d p kept msg.channel (Posted msg.serial) is.stage is.claimed }

pub insert_low : {D : Type 0} (p : StoreView D) (msg : Msg) → length p.rows ≡ 17 → IsInsertPosted p.rows msg
    → msg.channel < 17
insert_low p msg seventeen is = low_of p.rows msg.channel (Posted msg.serial) seventeen is.stage (λ bad. cc bad)

-- the begin, by whether the store is stopped
pub inserting_or_not : {D : Type 0} (d : Ghosts D) (p : WithOpening D) (q : StoreView D) (row : ℕ) (turn : InsertTurn)
    → ((k : kind.Kind) → TurnMade d p.at q k
    → StoreInvariant d (record { at = q; opening = p.opening; right = p.right }))
    → (p.at.stopped ≡ None → InsertsOrNot d p.at q turn)
    → (IsSome p.at.stopped → (turn ≡ insert.Logged) × TurnMade d p.at q (halting row))
    → StoreInvariant d (record { at = q; opening = p.opening; right = p.right })
inserting_or_not d p q row turn goes_on runs stops = by p.at.stopped refl
  where
    made : (t : InsertTurn) → InsertsOrNot d p.at q t
        → StoreInvariant d (record { at = q; opening = p.opening; right = p.right })
    made insert.Began x = goes_on kind.begins_insert x
    made insert.Decided x = goes_on kind.loses_insert x
    made insert.Logged x = goes_on x.kind x.made

    by : (o : Option ℕ) → p.at.stopped ≡ o → StoreInvariant d (record { at = q; opening = p.opening; right = p.right })
    by None is = made turn (runs is)
    by (Some at) is = goes_on (halting row) (stops (subst IsSome (sym is) refl)).1
