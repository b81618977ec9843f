-- Whole logs on the small store.
use Rattle.std.specs.Prelude.{◌≡◌, Some, None, true, false, List, [], ◌∷◌, codes}
use Rattle.std.specs.Global.{Box}
use Rattle.std.specs.Option.{option_map}
use Rattle.volume_model.specs.Volumes.{Page, Volume, Volumes, zero_page, fill_page}
use Rattle.volume_model.specs.Examples.{small, named, first}
use Rattle.volume_model.specs.Logs.{replay, IsLegal, stable, is_unsettled, Interleaves}
use Rattle.volume_model.specs.declared.command.VolumeRef.TheVariants.{Head, Named}
use Rattle.volume_model.specs.declared.command.PageWord.TheVariants.{Fill}
use Rattle.volume_model.specs.declared.command.Command.{Command}
use Rattle.volume_model.specs.declared.command.Command.TheVariants as c
use Rattle.volume_model.specs.declared.reply.Reply.{Reply}
use Rattle.volume_model.specs.declared.reply.Reply.TheVariants as r
use Rattle.volume_model.specs.declared.reply.Entry.{Entry}

-- no volume at all
abbrev pub nothing : Volumes
nothing h = None

-- an entry whose channel and number don't matter
abbrev pub entry : Command → Reply → Entry
entry command reply = record { channel = 0; index = 0; command = command; reply = reply }

-- a thin volume of 4 slots reads zeros; written at page 5, it reads zeros at 4 and the word at 5
abbrev pub ThinVolume : Type 0
ThinVolume = (zeros sevens : Box Page) → zeros.value ≡ zero_page → sevens.value ≡ fill_page 7 → IsLegal small nothing (
    entry (c.Create (codes "v") 4 false None) (r.Made 1)
    ∷ entry (c.Read (Named (codes "v")) 0) (r.Content zeros)
    ∷ entry (c.Write (Named (codes "v")) 5 (Fill 7)) r.Ok
    ∷ entry (c.Read (Named (codes "v")) 4) (r.Content zeros)
    ∷ entry (c.Read (Named (codes "v")) 5) (r.Content sevens)
    ∷ entry (c.Read (Named (codes "v")) 8) r.OutOfRange
    ∷ [])

-- a volume with a snapshot and a clone of that: the snapshot can be deleted only once the clone is, and the volume
-- reads as before
abbrev pub SnapshotWithClone : Type 0
SnapshotWithClone = (fives sixes : Box Page) → fives.value ≡ fill_page 5 → sixes.value ≡ fill_page 6
    → IsLegal small nothing (
    entry (c.Create (codes "v") 1 false None) (r.Made 1)
    ∷ entry (c.Write (Named (codes "v")) 0 (Fill 5)) r.Ok
    ∷ entry (c.Snapshot (Named (codes "v")) (codes "s")) (r.Made 2)
    ∷ entry (c.Clone (Named (codes "s")) (codes "c")) (r.Made 3)
    ∷ entry (c.Write (Named (codes "c")) 0 (Fill 6)) r.Ok
    ∷ entry (c.Read (Named (codes "c")) 0) (r.Content sixes)
    ∷ entry (c.Read (Named (codes "s")) 0) (r.Content fives)
    ∷ entry (c.Delete (Named (codes "s"))) (r.Busy 2)
    ∷ entry (c.Delete (Named (codes "c"))) r.Ok
    ∷ entry (c.Delete (Named (codes "s"))) r.Ok
    ∷ entry (c.Read (Named (codes "v")) 0) (r.Content fives)
    ∷ entry (c.Decouple (Named (codes "v"))) r.NoParent
    ∷ [])

-- names are looked up when a command is answered, and a volume that is deleted is found no more
abbrev pub NamesMove : Type 0
NamesMove = IsLegal small nothing (
    entry (c.Create (codes "v") 1 false None) (r.Made 1)
    ∷ entry (c.Rename (Named (codes "v")) (codes "w")) r.Ok
    ∷ entry (c.Read (Named (codes "v")) 0) r.NoVolume
    ∷ entry (c.Create (codes "w") 1 false None) r.NameTaken
    ∷ entry (c.Create (codes "v") 1 true None) (r.Made 2)
    ∷ entry (c.Delete (Named (codes "w"))) r.Ok
    ∷ entry (c.Rename (Named (codes "v")) (codes "w")) r.Ok
    ∷ entry (c.Sync (Head 1)) r.NoVolume
    ∷ [])

module _ (a b d e : Page) where
  -- v's k is 2, and 1 after a crash, whatever else is asked for but a put, a sync or a readonly
  abbrev pub pending : List Entry
  pending =
      entry (c.Write (Named (codes "v")) 1 (Fill 7)) r.Ok
      ∷ entry (c.SetX (Named (codes "v")) (codes "k") (codes "3")) r.Ok
      ∷ entry (c.Resize (Named (codes "v")) 1) r.Ok
      ∷ entry (c.Write (Named (codes "v")) 0 (Fill 8)) r.Fault
      ∷ []

  -- what survives of a log with attributes that aren't synced and pages that aren't settled
  pub record Surviving : Type 0 where
    pub live : option_map (λ (x : Volume). x.live) (replay small (first a b d e) pending 1)
        ≡ Some (named (codes "v") (codes "3"))
    pub survives : option_map (λ (x : Volume). x.live) (stable small (first a b d e) pending 1)
        ≡ Some (named (codes "v") (codes "1"))
    -- the resize settled the first write; the second, which failed, may have reached its page
    pub settled : is_unsettled small (first a b d e) pending 1 1 ≡ false
    pub unsettled : is_unsettled small (first a b d e) pending 1 0 ≡ true
    pub elsewhere : is_unsettled small (first a b d e) pending 2 0 ≡ false

-- two channels' entries, mixed; the lists of channels from 4 on are empty
abbrev pub TwoChannels : Type 0
TwoChannels = Interleaves (
    record { channel = 3; index = 0; command = c.Flush; reply = r.Ok }
    ∷ record { channel = 0; index = 0; command = c.Df; reply = r.Memory }
    ∷ record { channel = 3; index = 1; command = c.List; reply = r.Memory }
    ∷ []) ((c.Df ∷ []) ∷ [] ∷ [] ∷ (c.Flush ∷ c.List ∷ []) ∷ [])
