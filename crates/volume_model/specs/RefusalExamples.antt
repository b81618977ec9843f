-- Stores by which each row of the table of refusals is tried.
use Rattle.std.specs.Prelude.{◌≡◌, ◌+◌, ◌^◌, Some, None, true, false, List, [], ◌∷◌, slice_get, codes}
use Rattle.volume_model.specs.Xattrs.{Text}
use Rattle.volume_model.specs.Volumes.{Page, Volume, Volumes}
use Rattle.volume_model.specs.Refusals.{refusal}
use Rattle.volume_model.specs.Examples.{small, named, s, v, w, super, first}
use Rattle.volume_model.specs.declared.command.VolumeRef.TheVariants.{Head, Named}
use Rattle.volume_model.specs.declared.command.PageWord.TheVariants.{Fill}
use Rattle.volume_model.specs.declared.command.Command.{Command}
use Rattle.volume_model.specs.declared.command.Command.TheVariants as c
use Rattle.volume_model.specs.declared.reply.Reply.{Reply}
use Rattle.volume_model.specs.declared.reply.Reply.TheVariants as r

-- the first cause that holds in the volumes
abbrev pub FirstCauseIs : Volumes → Command → Reply → Type 0
FirstCauseIs volumes command reply = refusal small volumes command ≡ Some reply

-- nothing refuses the command
abbrev pub HasNoCause : Volumes → Command → Type 0
HasNoCause volumes command = refusal small volumes command ≡ None

module _ (a b d e : Page) where
  -- a family of which the second has one slot and the others two: a parent, its clone, and that one's clone; and one
  -- more clone of the first
  abbrev pub oldest : Volume
  oldest = record (s a b d e) { pages = a ∷ b ∷ d ∷ e ∷ []; live = named (codes "oldest") [] }

  abbrev pub middle : Volume
  middle = record (s a b d e) { live = named (codes "middle") []; parent = Some 1 }

  abbrev pub youngest : Volume
  youngest = record (v a b d e) { pages = a ∷ b ∷ d ∷ e ∷ []; live = named (codes "youngest") []; parent = Some 2 }

  abbrev pub aunt : Volume
  aunt = record (v a b d e) { live = named (codes "aunt") []; parent = Some 1 }

  -- these four beside the super blob
  abbrev pub family : Volumes
  family = slice_get (super a b d e ∷ oldest ∷ middle ∷ youngest ∷ aunt ∷ [])

  -- the same, of which the first and the third are locked
  abbrev pub locked_family : Volumes
  locked_family = slice_get (super a b d e ∷ record oldest { locked = true } ∷ middle
      ∷ record youngest { read_only = true; locked = true } ∷ aunt ∷ [])

  -- beside v, s and w one that has 2^24 slots
  abbrev pub huge : List Page → Volumes
  huge many = slice_get (super a b d e ∷ v a b d e ∷ s a b d e ∷ w a b d e
      ∷ record (w a b d e) { pages = many; live = named (codes "huge") [] } ∷ [])

  -- each refusal at its place: where it is given, the later causes of its row hold too wherever they can
  pub record Refusals (long : Text) (many : List Page) : Type 0 where
    pub create :
        FirstCauseIs (first a b d e) (c.Create (codes "v") (2 ^ 21) true None) r.NameTaken
        × FirstCauseIs (first a b d e) (c.Create (codes "n") (2 ^ 20 + 1) true None) r.TooLarge
        × FirstCauseIs (huge many) (c.Create (codes "n") 0 false None) r.TooLarge
        × HasNoCause (first a b d e) (c.Create (codes "n") (2 ^ 20) true None)
        × HasNoCause (first a b d e) (c.Create (codes "store") 1 true None)
    pub write :
        FirstCauseIs (first a b d e) (c.Write (Named (codes "n")) 0 (Fill 1)) r.NoVolume
        × FirstCauseIs (first a b d e) (c.Write (Named (codes "store")) 0 (Fill 1)) r.NoVolume
        × FirstCauseIs (first a b d e) (c.Write (Head 0) 0 (Fill 1)) r.Reserved
        × FirstCauseIs (first a b d e) (c.Write (Head 2) 2 (Fill 1)) r.OutOfRange
        × FirstCauseIs (first a b d e) (c.Write (Head 2) 1 (Fill 1)) r.ReadOnly
    pub read :
        FirstCauseIs (first a b d e) (c.Read (Head 4) 0) r.NoVolume
        × FirstCauseIs (first a b d e) (c.Read (Head 0) 0) r.OutOfRange
        × FirstCauseIs (first a b d e) (c.Read (Head 1) 2) r.OutOfRange
        × HasNoCause (first a b d e) (c.Read (Head 2) 1)
    pub setx :
        FirstCauseIs (first a b d e) (c.SetX (Named (codes "n")) (codes "k") long) r.NoVolume
        × FirstCauseIs (first a b d e) (c.SetX (Head 0) (codes "k") long) r.Reserved
        × FirstCauseIs (first a b d e) (c.SetX (Head 2) (codes "name") long) r.Reserved
        × FirstCauseIs (first a b d e) (c.SetX (Head 2) (codes "k") long) r.ReadOnly
        × FirstCauseIs (first a b d e) (c.SetX (Head 1) (codes "k") long) r.TooLong
        × HasNoCause (first a b d e) (c.SetX (Head 1) [] long)
    pub delx :
        FirstCauseIs (first a b d e) (c.DelX (Named (codes "n")) (codes "j")) r.NoVolume
        × FirstCauseIs (first a b d e) (c.DelX (Head 0) (codes "j")) r.Reserved
        × FirstCauseIs (first a b d e) (c.DelX (Head 2) (codes "uuid")) r.Reserved
        × FirstCauseIs (first a b d e) (c.DelX (Head 2) (codes "j")) r.ReadOnly
        × FirstCauseIs (first a b d e) (c.DelX (Head 1) (codes "j")) r.NoValue
    pub getx :
        FirstCauseIs (first a b d e) (c.GetX (Named (codes "n")) (codes "j")) r.NoVolume
        × FirstCauseIs (first a b d e) (c.GetX (Head 2) (codes "j")) r.NoValue
        × HasNoCause (first a b d e) (c.GetX (Head 0) (codes "name"))
    pub put :
        FirstCauseIs (first a b d e) (c.Put (Named (codes "n")) (codes "k") long) r.NoVolume
        × FirstCauseIs (first a b d e) (c.Put (Head 0) (codes "k") long) r.Reserved
        × FirstCauseIs (first a b d e) (c.Put (Head 2) (codes "uuid") long) r.Reserved
        × FirstCauseIs (first a b d e) (c.Put (Head 2) (codes "k") long) r.ReadOnly
        × FirstCauseIs (first a b d e) (c.Put (Head 1) (codes "k") long) r.TooLong
        × HasNoCause (first a b d e) (c.Put (Head 1) [] long)
    pub sync :
        FirstCauseIs (first a b d e) (c.Sync (Named (codes "n"))) r.NoVolume
        × FirstCauseIs (first a b d e) (c.Sync (Head 0)) r.Reserved
        × FirstCauseIs (first a b d e) (c.Sync (Head 2)) r.ReadOnly
    pub resize :
        FirstCauseIs (first a b d e) (c.Resize (Named (codes "n")) (2 ^ 21)) r.NoVolume
        × FirstCauseIs (first a b d e) (c.Resize (Head 0) (2 ^ 21)) r.Reserved
        × FirstCauseIs family (c.Resize (Named (codes "middle")) (2 ^ 21)) r.ReadOnly
        × FirstCauseIs family (c.Resize (Named (codes "aunt")) (2 ^ 21)) r.Short
        × FirstCauseIs (first a b d e) (c.Resize (Head 3) (2 ^ 20 + 1)) r.TooLarge
        × FirstCauseIs (huge many) (c.Resize (Head 3) 2) r.TooLarge
        × HasNoCause family (c.Resize (Named (codes "aunt")) 1)
        × HasNoCause family (c.Resize (Named (codes "youngest")) 3)
    pub snapshot :
        FirstCauseIs (first a b d e) (c.Snapshot (Named (codes "n")) (codes "v")) r.NoVolume
        × FirstCauseIs (huge many) (c.Snapshot (Head 0) (codes "v")) r.Reserved
        × FirstCauseIs (huge many) (c.Snapshot (Head 2) (codes "v")) r.ReadOnly
        × FirstCauseIs (huge many) (c.Snapshot (Head 1) (codes "v")) r.NameTaken
        × FirstCauseIs (huge many) (c.Snapshot (Head 1) (codes "n")) r.TooLarge
    pub clone :
        FirstCauseIs (huge many) (c.Clone (Named (codes "n")) (codes "v")) r.NoVolume
        × FirstCauseIs (huge many) (c.Clone (Head 1) (codes "v")) r.NotReadOnly
        × FirstCauseIs (huge many) (c.Clone (Head 2) (codes "v")) r.NameTaken
        × FirstCauseIs (huge many) (c.Clone (Head 2) (codes "n")) r.TooLarge
        × HasNoCause (first a b d e) (c.Clone (Head 0) (codes "n"))
    pub inflate :
        FirstCauseIs (first a b d e) (c.Inflate (Named (codes "n"))) r.NoVolume
        × FirstCauseIs (first a b d e) (c.Inflate (Head 0)) r.Reserved
        × FirstCauseIs (first a b d e) (c.Inflate (Head 2)) r.ReadOnly
        × HasNoCause (first a b d e) (c.Inflate (Head 3))
    pub decouple :
        FirstCauseIs (first a b d e) (c.Decouple (Named (codes "n"))) r.NoVolume
        × FirstCauseIs (first a b d e) (c.Decouple (Head 0)) r.Reserved
        × FirstCauseIs (first a b d e) (c.Decouple (Head 2)) r.ReadOnly
        × FirstCauseIs locked_family (c.Decouple (Named (codes "youngest"))) r.ReadOnly
        × FirstCauseIs (first a b d e) (c.Decouple (Head 3)) r.NoParent
        × FirstCauseIs family (c.Decouple (Named (codes "youngest"))) r.Short
        × HasNoCause family (c.Decouple (Named (codes "aunt")))
    pub delete :
        FirstCauseIs (first a b d e) (c.Delete (Named (codes "n"))) r.NoVolume
        × FirstCauseIs (first a b d e) (c.Delete (Head 0)) r.Reserved
        × FirstCauseIs locked_family (c.Delete (Named (codes "oldest"))) r.ReadOnly
        × FirstCauseIs locked_family (c.Delete (Named (codes "middle"))) r.ReadOnly
        × FirstCauseIs family (c.Delete (Named (codes "oldest"))) (r.Busy 2)
        × FirstCauseIs family (c.Delete (Named (codes "middle"))) r.Short
        × HasNoCause (first a b d e) (c.Delete (Head 2))
    pub rename :
        FirstCauseIs (first a b d e) (c.Rename (Named (codes "n")) (codes "v")) r.NoVolume
        × FirstCauseIs (first a b d e) (c.Rename (Head 0) (codes "v")) r.Reserved
        × FirstCauseIs (first a b d e) (c.Rename (Head 2) (codes "v")) r.ReadOnly
        × FirstCauseIs (first a b d e) (c.Rename (Head 1) (codes "v")) r.NameTaken
    pub readonly :
        FirstCauseIs (first a b d e) (c.ReadOnly (Named (codes "n"))) r.NoVolume
        × FirstCauseIs (first a b d e) (c.ReadOnly (Head 0)) r.Reserved
        × FirstCauseIs (first a b d e) (c.ReadOnly (Head 2)) r.ReadOnly
    pub info : FirstCauseIs (first a b d e) (c.Info (Named (codes "n"))) r.NoVolume
        × HasNoCause (first a b d e) (c.Info (Head 0))
