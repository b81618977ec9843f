-- What a replacement does besides giving a blob new metadata, and what a commit makes.
use Rattle.std.specs.Prelude.{◌≡◌, ℕ, ◌||◌, nat_lt, if◌then◌else◌, is_some, not, Bool, true, false, List, [], ◌∷◌, drop}
use Rattle.std.specs.Prelude.{length, Option, None, Some}
use Rattle.std.specs.FinMap as map
use Rattle.std.specs.Option.{option_and_then, option_map, option_map_or}
use Rattle.std.specs.Ordering.{nat_cmp}
use Rattle.volume_model.specs.Xattrs.{Xattrs, name_key, with_nul, with_value}
use Rattle.volume_model.specs.declared.command.Command.{Command}
use Rattle.volume_model.specs.declared.command.Command.TheVariants as c
use Rattle.volume_model.specs.declared.reply.Reply.{Reply}
use Rattle.volume_model.specs.declared.reply.Reply.TheVariants as r
use Rattle.blob_meta.specs.declared.meta.Meta.{Meta}
use Rattle.blob_meta.specs.Faults.{clusters_held}
use Rattle.store_model.specs.Phases.{Committing, LiveChange}
use Rattle.running_store.specs.declared.effects.Effects.{Effects}
use Rattle.running_store.specs.declared.entries.EntryChange.{EntryChange}
use Rattle.running_store.specs.declared.replacements.Commit.{Commit}
use Rattle.running_store.specs.Places.{HasPlace}

-- ---- what a commit makes, as the model has it

-- what the command is answered with then
abbrev pub reply_of : Commit → Reply
reply_of commit = option_map_or r.Made commit.made r.Ok

-- the attributes that are read otherwise from then on
abbrev pub live_seen : EntryChange Xattrs → LiveChange
live_seen x = record { head = x.head; xattrs = x.value }

abbrev pub commit_seen : Commit → Committing
commit_seen commit =
    record { reply = reply_of commit; live = option_map live_seen commit.live; renews = commit.renews }

-- ---- what follows from new metadata

-- The attributes of a blob as they are read from the commit of a command on, if they are others than these: a resize
-- and the end of a fill leave them, a rename gives them the name, and else they are those that are written.
abbrev pub live_behind : Command → Option Xattrs → Meta → Option Xattrs
live_behind (c.Resize volume slots) live new = None
live_behind (c.Inflate volume) live new = None
live_behind (c.Decouple volume) live new = None
live_behind (c.Rename volume name) live new = option_map (λ xattrs. with_value xattrs name_key (with_nul name)) live
live_behind _ live new = Some new.xattrs

-- whether a blob that is there has fewer slots than before
abbrev pub is_cut : Option Meta → Meta → Bool
is_cut None new = false
is_cut (Some old) new = nat_lt (length new.map) (length old.map)

-- whether a command ends with another parent of its blob, as the fills do
abbrev pub takes_parent : Command → Bool
takes_parent (c.Inflate volume) = true
takes_parent (c.Decouple volume) = true
takes_parent _ = false

-- whether a blob that is there gets another generation
abbrev pub is_renewed : Command → Option Meta → Meta → Bool
is_renewed command old new = takes_parent command || is_cut old new

-- the clusters of the slots that are cut
abbrev pub cut_clusters : Option Meta → Meta → List ℕ
cut_clusters None new = []
cut_clusters (Some old) new = clusters_held (drop (length new.map) old.map)

-- the blob at a head, if it gets a generation
abbrev pub numbered_by : Bool → ℕ → List ℕ
numbered_by gets head = if gets then head ∷ [] else []

-- the attributes of the blob at a head, if they are read otherwise from a commit on
abbrev pub live_at : ℕ → Option Xattrs → Option LiveChange
live_at head = option_map (λ xattrs. record { head = head; xattrs = Some xattrs })

-- what the commit makes that gives new metadata to a blob that is there, which is renewed or not, or to a new one
abbrev pub commit_by : Bool → ℕ → Bool → Option Xattrs → Committing
commit_by there head renewed live = record {
  reply = if there then r.Ok else r.Made head;
  live = live_at head live;
  renews = numbered_by (not there || renewed) head;
}

-- The change gives the head these attributes, for which the map has a place; or there are none.
abbrev pub IsGiven : map.FinMap nat_cmp Xattrs → ℕ → Option Xattrs → Option (EntryChange Xattrs) → Type 0
IsGiven live head None o = o ≡ None
IsGiven live head (Some xattrs) o = (room : Option ℕ)
    × (o ≡ Some (record { head = head; value = Some xattrs; room = room })) × HasPlace live head room

-- They are those of a command's commit, which gives the blob at a head new metadata in place of old, where these
-- attributes were read, with these clusters claimed for it. No other blob is shown otherwise.
pub record AreEffects (there : Bool) (head : ℕ) (old : Option Meta) (command : Command) (live : Option Xattrs)
    (new : Meta) (clusters : List ℕ) (e : Effects) : Type 0 where
  pub commit : option_map commit_seen e.commit
      ≡ Some (commit_by there head (is_renewed command old new) (live_behind command live new))
  pub shows : option_and_then (λ commit. commit.shows) e.commit ≡ None
  pub makes : is_some e.rooms.chain ≡ not there
  pub freed : e.freed ≡ cut_clusters old new
  pub claimed : e.claimed ≡ clusters
