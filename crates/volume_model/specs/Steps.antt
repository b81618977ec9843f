-- One step: which replies a command may get in given volumes, and the volumes afterwards.
use Rattle.std.specs.Prelude.{◌⊎◌, ◌≡◌, ℕ, ◌<◌, ◌==◌, if◌then◌else◌, Option, Some, None, Bool, true, false, not, List}
use Rattle.std.specs.Prelude.{slice_get, slice_set, length}
use Rattle.std.specs.List.{filter_map}
use Rattle.std.specs.Option.{option_map, option_and_then}
use Rattle.volume_model.specs.Xattrs.{Text, value_of, with_value, without, told, with_nul, name_key, uuid_key}
use Rattle.volume_model.specs.Volumes.{Page, Volume, Volumes, Fixed, page_of, zero_slots, resized, heads, is_given_head}
use Rattle.volume_model.specs.Volumes.{is_super, slots_of, head_of, two_xattrs}
use Rattle.volume_model.specs.Refusals.{refusal}
use Rattle.volume_model.specs.declared.command.VolumeRef.{VolumeRef}
use Rattle.volume_model.specs.declared.command.Command.{Command}
use Rattle.volume_model.specs.declared.command.Command.TheVariants as c
use Rattle.volume_model.specs.declared.reply.Info.{Info}
use Rattle.volume_model.specs.declared.reply.Reply.{Reply}
use Rattle.volume_model.specs.declared.reply.Reply.TheVariants as r

-- every reply but those of a verb that is done
abbrev pub IsRefusal : Reply → Type 0
IsRefusal r.Ok = ⊥
IsRefusal (r.Made h) = ⊥
IsRefusal (r.Content page) = ⊥
IsRefusal (r.Value value) = ⊥
IsRefusal (r.Info info) = ⊥
IsRefusal (r.List list) = ⊥
IsRefusal (r.Df df) = ⊥
IsRefusal _ = Unit {0}

-- what is told of a volume at h
abbrev pub info_of : Fixed → ℕ → Volume → Info
info_of f h x = record {
  head = h;
  name = told x.live name_key;
  uuid = told x.live uuid_key;
  slots = slots_of f x;
  parent = x.parent;
  thin = x.thin;
  read_only = x.read_only;
  xattrs = length x.live;
}

module _ (f : Fixed) (v : Volumes) where
  -- the volume that a reference means
  abbrev pub volume_at : VolumeRef → Option Volume
  volume_at volume = option_and_then v (head_of f v volume)

  -- what is told of the volume at a head
  abbrev pub info_at : ℕ → Option Info
  info_at h = option_map (info_of f h) (v h)

  -- where a new volume may be made
  abbrev pub IsFree : ℕ → Type 0
  IsFree h = (h < f.md_len) × (v h ≡ None)

  -- the reply of each verb that is done
  abbrev pub Done : Command → Reply → Type 0
  Done (c.Create name slots thick uuid) (r.Made h) = IsFree h
  Done (c.Write volume page word) r.Ok = Unit {0}
  Done (c.Read volume page) (r.Content content) = option_and_then (λ x. slice_get x.pages page) (volume_at volume)
      ≡ Some content.value
  Done c.Flush r.Ok = Unit {0}
  Done (c.SetX volume key value) r.Ok = Unit {0}
  Done (c.DelX volume key) r.Ok = Unit {0}
  Done (c.GetX volume key) (r.Value value) = option_and_then (λ x. value_of x.live key) (volume_at volume) ≡ Some value
  Done (c.Put volume key value) r.Ok = Unit {0}
  Done (c.Sync volume) r.Ok = Unit {0}
  Done (c.Resize volume slots) r.Ok = Unit {0}
  Done (c.Snapshot volume name) (r.Made h) = IsFree h
  Done (c.Clone volume name) (r.Made h) = IsFree h
  Done (c.Inflate volume) r.Ok = Unit {0}
  Done (c.Decouple volume) r.Ok = Unit {0}
  Done (c.Delete volume) r.Ok = Unit {0}
  Done (c.Rename volume name) r.Ok = Unit {0}
  Done (c.ReadOnly volume) r.Ok = Unit {0}
  Done (c.Info volume) (r.Info info) = option_and_then info_at (head_of f v volume) ≡ Some info
  -- all live volumes but the super blob, by ascending head
  Done c.List (r.List list) = list ≡ filter_map (λ h. if is_super f h then None else info_at h) (heads f)
  -- how much is free is no matter of the volumes
  Done c.Df (r.Df df) = Unit {0}
  Done _ _ = ⊥

  -- the volume that a reference means, changed; all others as they are
  abbrev pub edited_at : Option ℕ → (Volume → Volume) → Volumes
  edited_at None change = v
  edited_at (Some h) change = λ k. if k == h then option_map change (v k) else v k

  -- the same of the volume that a reference means
  abbrev pub edited : VolumeRef → (Volume → Volume) → Volumes
  edited volume change = edited_at (head_of f v volume) change

  -- a volume as it is made, with the attributes `name` and `uuid` alone
  abbrev pub new_volume : Text → Option (List ℕ) → List Page → Bool → Bool → Option ℕ → Volume
  new_volume name uuid pages thin read_only parent = record {
    pages = pages;
    live = two_xattrs f v name uuid;
    synced = two_xattrs f v name uuid;
    thin = thin;
    read_only = read_only;
    locked = false;
    parent = parent;
  }

  -- beside other volumes one more, at h
  abbrev pub added : Volumes → ℕ → Option Volume → Volumes
  added w h x = λ k. if k == h then x else w k

  -- gone; a clone of it has its parent
  abbrev pub deleted_at : Option ℕ → Volumes
  deleted_at None = v
  deleted_at (Some h) = λ k.
      if k == h then None else option_map (λ (x : Volume). record x {
        parent = if is_given_head h x.parent then option_and_then (λ y. y.parent) (v h) else x.parent;
      }) (v k)

  -- the volumes after a reply: those of a verb that is done, else as they were
  abbrev pub change : Command → Reply → Volumes
  change (c.Create name slots thick uuid) (r.Made h) =
      added v h (Some (new_volume name uuid (zero_slots f slots) (not thick) false None))
  change (c.Write volume page word) r.Ok = edited volume
      (λ x. record x { pages = slice_set x.pages page (page_of word) })
  change (c.SetX volume key value) r.Ok = edited volume (λ x. record x { live = with_value x.live key value })
  change (c.DelX volume key) r.Ok = edited volume (λ x. record x { live = without x.live key })
  -- set, and then all that was pending is synced
  change (c.Put volume key value) r.Ok = edited volume
      (λ x. record x { live = with_value x.live key value; synced = with_value x.live key value })
  change (c.Sync volume) r.Ok = edited volume (λ x. record x { synced = x.live })
  change (c.Resize volume slots) r.Ok = edited volume (λ x. record x { pages = resized f x.pages slots })
  -- a read-only copy under the new name, which is the volume's parent from now on
  change (c.Snapshot volume name) (r.Made h) =
      added (edited volume (λ x. record x { thin = true; parent = Some h })) h
      (option_map (λ x. new_volume name None x.pages x.thin true x.parent) (volume_at volume))
  -- a thin, writable copy under the new name, whose parent is the volume
  change (c.Clone volume name) (r.Made h) = added v h
      (option_map (λ x. new_volume name None x.pages true false (head_of f v volume)) (volume_at volume))
  change (c.Inflate volume) r.Ok = edited volume (λ x. record x { thin = false; parent = None })
  -- the parent's parent in place of the parent
  change (c.Decouple volume) r.Ok = edited volume (λ x. record x {
    parent = option_and_then (λ y. y.parent) (option_and_then v x.parent);
  })
  change (c.Delete volume) r.Ok = deleted_at (head_of f v volume)
  -- the one attribute, live and synced; what else is pending stays so
  change (c.Rename volume name) r.Ok = edited volume
      (λ x. record x {
        live = with_value x.live name_key (with_nul name);
        synced = with_value x.synced name_key (with_nul name);
      })
  change (c.ReadOnly volume) r.Ok = edited volume (λ x. record x { synced = x.live; read_only = true })
  change _ _ = v

  -- the head of the volume that a command names
  abbrev pub named_head : Command → Option ℕ
  named_head (c.Create name slots thick uuid) = None
  named_head (c.Write volume page word) = head_of f v volume
  named_head (c.Read volume page) = head_of f v volume
  named_head c.Flush = None
  named_head (c.SetX volume key value) = head_of f v volume
  named_head (c.DelX volume key) = head_of f v volume
  named_head (c.GetX volume key) = head_of f v volume
  named_head (c.Put volume key value) = head_of f v volume
  named_head (c.Sync volume) = head_of f v volume
  named_head (c.Resize volume slots) = head_of f v volume
  named_head (c.Snapshot volume name) = head_of f v volume
  named_head (c.Clone volume name) = head_of f v volume
  named_head (c.Inflate volume) = head_of f v volume
  named_head (c.Decouple volume) = head_of f v volume
  named_head (c.Delete volume) = head_of f v volume
  named_head (c.Rename volume name) = head_of f v volume
  named_head (c.ReadOnly volume) = head_of f v volume
  named_head (c.Info volume) = head_of f v volume
  named_head c.List = None
  named_head c.Df = None

  -- a clone of a volume that is deleted
  abbrev pub IsOrphan : Command → ℕ → Type 0
  IsOrphan (c.Delete volume) k = (h : ℕ) × (head_of f v volume ≡ Some h)
      × (option_and_then (λ x. x.parent) (v k) ≡ Some h)
  IsOrphan _ k = ⊥

  -- a step speaks of the volume that it names, of the one that it makes, and of the clones of one that it deletes
  abbrev pub SpeaksOf : Command → Reply → ℕ → Type 0
  SpeaksOf command reply k = (named_head command ≡ Some k) ⊎ ((reply ≡ r.Made k) ⊎ IsOrphan command k)

  -- verbs that claim clusters
  abbrev pub MayBeFull : Command → Type 0
  MayBeFull (c.Create name slots thick uuid) = Unit {0}
  MayBeFull (c.Write volume page word) = Unit {0}
  MayBeFull (c.Resize volume slots) = Unit {0}
  MayBeFull (c.Inflate volume) = Unit {0}
  MayBeFull (c.Decouple volume) = Unit {0}
  MayBeFull _ = ⊥

  -- verbs that change metadata on disk
  abbrev pub MayLackPages : Command → Type 0
  MayLackPages (c.Create name slots thick uuid) = Unit {0}
  MayLackPages (c.Write volume page word) = Unit {0}
  MayLackPages (c.Put volume key value) = Unit {0}
  MayLackPages (c.Sync volume) = Unit {0}
  MayLackPages (c.Resize volume slots) = Unit {0}
  MayLackPages (c.Snapshot volume name) = Unit {0}
  MayLackPages (c.Clone volume name) = Unit {0}
  MayLackPages (c.Inflate volume) = Unit {0}
  MayLackPages (c.Decouple volume) = Unit {0}
  MayLackPages (c.Delete volume) = Unit {0}
  MayLackPages (c.Rename volume name) = Unit {0}
  MayLackPages (c.ReadOnly volume) = Unit {0}
  MayLackPages _ = ⊥

  -- verbs that read pages
  abbrev pub MayMissRead : Command → Type 0
  MayMissRead (c.Write volume page word) = Unit {0}
  MayMissRead (c.Read volume page) = Unit {0}
  MayMissRead (c.Inflate volume) = Unit {0}
  MayMissRead (c.Decouple volume) = Unit {0}
  MayMissRead _ = ⊥

  -- verbs that write to the device or flush it
  abbrev pub MayFail : Command → Type 0
  MayFail c.Flush = Unit {0}
  MayFail command = MayLackPages command

  -- verbs that may want memory
  abbrev pub MayLackMemory : Command → Type 0
  MayLackMemory (c.Read volume page) = ⊥
  MayLackMemory c.Flush = ⊥
  MayLackMemory _ = Unit {0}

  -- No cause of a refusal holds. A write, an inflate and a decouple go on over several turns and have asked at an
  -- earlier one: what a later turn meets is answered whatever holds by then.
  abbrev pub HasPassed : Command → Type 0
  HasPassed (c.Write volume page word) = Unit {0}
  HasPassed (c.Inflate volume) = Unit {0}
  HasPassed (c.Decouple volume) = Unit {0}
  HasPassed command = refusal f v command ≡ None

  -- the reply may come: the one of a verb that is done and the faults, each where it may, and else the first cause that
  -- holds
  abbrev pub Allowed : Command → Reply → Type 0
  Allowed command r.Ok = (refusal f v command ≡ None) × Done command r.Ok
  Allowed command (r.Made h) = (refusal f v command ≡ None) × Done command (r.Made h)
  Allowed command (r.Content page) = (refusal f v command ≡ None) × Done command (r.Content page)
  Allowed command (r.Value value) = (refusal f v command ≡ None) × Done command (r.Value value)
  Allowed command (r.Info info) = (refusal f v command ≡ None) × Done command (r.Info info)
  Allowed command (r.List list) = (refusal f v command ≡ None) × Done command (r.List list)
  Allowed command (r.Df df) = (refusal f v command ≡ None) × Done command (r.Df df)
  Allowed command r.Full = (refusal f v command ≡ None) × MayBeFull command
  Allowed command r.NoPage = HasPassed command × MayLackPages command
  Allowed command r.ReadFault = HasPassed command × MayMissRead command
  Allowed command r.Fault = MayFail command
  Allowed command (r.Stopped at) = Unit {0}
  Allowed command r.Memory = MayLackMemory command
  Allowed command reply = refusal f v command ≡ Some reply

  -- the reply may come, and these are the volumes after it
  pub record Step (command : Command) (reply : Reply) (w : Volumes) : Type 0 where
    pub allowed : Allowed command reply
    pub after : (h : ℕ) → w h ≡ change command reply h
