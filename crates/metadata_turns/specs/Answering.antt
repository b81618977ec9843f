-- What a command comes to that is answered in memory.
use Rattle.std.specs.Prelude.{◌≡◌, ◌⊎◌, ◌<◌, ◌^◌, ℕ, false, IfNone, IfSome, Option, Some, None}
use Rattle.std.specs.Option.{option_and_then}
use Rattle.std.specs.Ordering.{nat_cmp}
use Rattle.std.specs.FinMap as map
use Rattle.super_block.specs.declared.page.Super.{Super}
use Rattle.volume_model.specs.Xattrs.{Xattrs, value_of, with_value, without}
use Rattle.volume_model.specs.declared.command.VolumeRef.{VolumeRef}
use Rattle.volume_model.specs.declared.command.Command.{Command}
use Rattle.volume_model.specs.declared.command.Command.TheVariants as c
use Rattle.volume_model.specs.declared.reply.Reply.{Reply}
use Rattle.volume_model.specs.declared.reply.Reply.TheVariants as r
use Rattle.blob_meta.specs.declared.meta.Meta.{Meta}
use Rattle.blob_meta.specs.Asked.{asked_volume, IsAttributeCause, IsFirstCause, IsOnAttributes}
use Rattle.blob_meta.specs.Find.{is_meant, IsLeast}
use Rattle.blob_meta.specs.ShownBy.{IsHeadMeant}
use Rattle.store_model.specs.Cases.{IsInMemory}
use Rattle.metadata_turns.specs.Infos.{IsQuestion}
use Rattle.metadata_turns.specs.declared.answering.Effect.{Effect}
use Rattle.metadata_turns.specs.declared.answering.NewLive.{NewLive}

-- a command on attributes that is answered in memory
abbrev pub IsAskedInMemory : Command → Type 0
IsAskedInMemory command = IsOnAttributes command × IsInMemory command

-- such a command, or one that asks what there is
abbrev pub IsAnswerable : Command → Type 0
IsAnswerable command = IsAskedInMemory command ⊎ IsQuestion command

-- What is found of the volume that a command names: its head, where it is there, and its live attributes.
pub record IsFound (metas : map.FinMap nat_cmp Meta) (sup : Super) (live : map.FinMap nat_cmp Xattrs)
    (command : Command)
    (head : Option ℕ) (xattrs : Option Xattrs) : Type 0 where
  pub volume : VolumeRef
  pub asked : asked_volume command ≡ Some volume
  pub there : IfSome head (IsLeast (is_meant sup.super_blob metas volume))
  pub not_there : IfNone head ((h : ℕ) → h < 2 ^ 32 → is_meant sup.super_blob metas volume h ≡ false)
  pub meant : IsHeadMeant metas sup volume head
  pub live_is : xattrs ≡ option_and_then (λ h. map.get live h) head

-- A command that nothing refuses, on the volume at a head that has these live attributes, with its reply and new live
-- attributes.
abbrev pub DoesVerb : ℕ → Xattrs → Command → Reply → Option NewLive → Type 0
DoesVerb head live (c.SetX volume key value) reply new =
    (reply ≡ r.Ok) × (new ≡ Some (record { head = head; xattrs = with_value live key value }))
DoesVerb head live (c.DelX volume key) reply new =
    (reply ≡ r.Ok) × (new ≡ Some (record { head = head; xattrs = without live key }))
DoesVerb head live (c.GetX volume key) reply new =
    (new ≡ None) × ((value : _) × (reply ≡ r.Value value) × (value_of live key ≡ Some value))
DoesVerb head live command reply new = ⊥

module _ (metas : map.FinMap nat_cmp Meta) (sup : Super) (head : Option ℕ) (live : Option Xattrs) (command : Command)
    (e : Effect) where
  -- the first cause that holds, and nothing else
  pub record IsVerbRefused : Type 0 where
    pub cause : IsAttributeCause e.reply
    pub first : IsFirstCause metas sup live command (Some e.reply)
    pub none : e.live ≡ None

  -- done at the head that is found
  pub record IsVerbDone : Type 0 where
    pub none : IsFirstCause metas sup live command None
    pub at : ℕ
    pub head_is : head ≡ Some at
    pub mine : Xattrs
    pub live_is : live ≡ Some mine
    pub does : DoesVerb at mine command e.reply e.live

  abbrev pub ComesTo : Type 0
  ComesTo = IsVerbRefused ⊎ IsVerbDone
