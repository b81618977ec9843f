-- A state written down, and what the definitions say of it: a blob that is frozen, one that is marked, a claim that is
-- open, and a job of two replacements.
use Rattle.std.specs.Prelude.{◌≡◌, ◌==◌, if◌then◌else◌, codes, List, [], ◌∷◌, None, Some, true, false, refl}
use Rattle.page_fields.specs.Fields.{number}
use Rattle.super_block.specs.declared.page.Super.{Super}
use Rattle.volume_model.specs.Volumes.{zero_page}
use Rattle.volume_model.specs.declared.command.Command.TheVariants as c
use Rattle.volume_model.specs.declared.command.Command.{Command}
use Rattle.volume_model.specs.declared.command.VolumeRef.TheVariants.{Head}
use Rattle.volume_model.specs.declared.reply.Reply.TheVariants as r
use Rattle.volume_model.specs.declared.text.Xattr.{Xattr}
use Rattle.blob_meta.specs.declared.meta.Meta.{Meta}
use Rattle.blob_meta.specs.Resolving.{mark_of, resolved}
use Rattle.store_model.specs.Device.{Device}
use Rattle.store_model.specs.Maps.{Metas}
use Rattle.store_model.specs.Rows.{Copying, Ended, Idle, InJob, OpenClaim, Rows}
use Rattle.store_model.specs.Phases.{Committing, Erases, Frees, held_in, Phase, Replaces, Replacing, todo_of, Writes}
use Rattle.store_model.specs.StoreState.{ForCommand, JobState, StoreState, turns_left, waiting}
use Rattle.store_model.specs.Cases.LoseCopy.{LosesCopy}
use Rattle.store_model.specs.Claiming.{own}
use Rattle.store_model.specs.Copying.{IsWanted}
use Rattle.volume_model.specs.declared.command.PageWord.TheVariants.{Fill}

-- metadata of no slot, with these marks
abbrev meta_with : List Xattr → Meta
meta_with marks =
    record { id = 0; flags = record { invalid = 0; data_ro = 0; md_ro = 0 }; xattrs = []; internal = marks; map = [] }

-- a snapshot in the making, of the blob at head 0
abbrev half_made : Meta
half_made = meta_with (record { key = codes "SNAPTMP"; value = 0 ∷ 0 ∷ 0 ∷ 0 ∷ 1 ∷ 0 ∷ 0 ∷ 0 ∷ [] } ∷ [])

abbrev base : Metas
base head = if head == 0 then Some (meta_with []) else (if head == 3 then Some half_made else None)

-- it is marked, and since the blob at head 0 doesn't have it for its parent, recovery removes it
pub is_marked : mark_of half_made ≡ Some (0 ∷ 0 ∷ 0 ∷ 0 ∷ 1 ∷ 0 ∷ 0 ∷ 0 ∷ [])
is_marked = refl

pub head_3_is_removed : resolved base 3 ≡ None
unfolding number
head_3_is_removed = refl

-- ---- a job of two replacements

abbrev first : Replacing
first =
    record { head = 3; new = Some half_made; makes = false; fresh = 5 ∷ []; planned = []; old = 6 ∷ 7 ∷ []; freed = [] }

abbrev second : Replacing
second =
    record { head = 0; new = Some (meta_with []); makes = false; fresh = 8 ∷ []; planned = []; old = []; freed = [] }

abbrev commit : Committing
commit = record { reply = r.Made 3; live = None; renews = 0 ∷ [] }

abbrev todo : List Phase
todo = todo_of (first ∷ second ∷ []) 2 commit

-- six turns, of which the last commits
pub phases_are : todo ≡ Writes 5 ∷ Replaces first None ∷ Erases 6 ∷ Frees 7 (6 ∷ 7 ∷ []) ∷ Writes 8 ∷ Replaces second
    (Some commit) ∷ []
phases_are = refl

-- it holds both fresh places, and the old ones only once the first replacement is made
pub holds_places : held_in todo ≡ 5 ∷ 8 ∷ []
holds_places = refl

pub holds_old : held_in (Erases 6 ∷ Frees 7 (6 ∷ 7 ∷ []) ∷ Writes 8 ∷ Replaces second (Some commit) ∷ [])
    ≡ 6 ∷ 7 ∷ 8 ∷ []
holds_old = refl

-- ---- a state with it

abbrev job : JobState
job = record { serves = ForCommand 1; freeze = Some 0; claimed = []; written = []; todo = todo }

abbrev claim : OpenClaim
claim = record { cluster = 9; head = 0; slot = 2; generation = 4 }

abbrev writes : List Command
writes = c.Write (Head 0) 8 (Fill 7) ∷ c.Flush ∷ []

abbrev rows : Rows
rows channel =
    if channel == 0 then record { left = writes; stage = Copying 2; claim = Some claim }
    else (if channel == 1 then record { left = c.Sync (Head 0) ∷ []; stage = InJob; claim = None }
    else record { left = []; stage = Ended; claim = None })

abbrev device : Device
device = record { reads = λ page. zero_page; clock = 10; read_faults = 0; write_faults = 0; read_calls = 0 }

-- the channel of the command waits for the job, which has six turns left
pub waits_for_it : waiting job.serves job.todo ≡ Some 1
waits_for_it = refl

pub six_left : turns_left (Some job) ≡ 6
six_left = refl

module _ (super : Super) where
  abbrev pub state : StoreState
  state = record {
    super = super;
    clean = false;
    base = base;
    chains = λ head. if head == 0 then Some (0 ∷ []) else (if head == 3 then Some (3 ∷ 6 ∷ 7 ∷ []) else None);
    live = λ head. if head == 0 then Some [] else (if head == 3 then Some [] else None);
    pages = true ∷ false ∷ false ∷ true ∷ false ∷ true ∷ true ∷ true ∷ true ∷ [];
    clusters = [];
    rows = rows;
    filling = None;
    job = Some job;
    frozen = λ head. head == 0;
    generations = λ head. if head == 0 then Some 5 else (if head == 3 then Some 2 else None);
    drawn = 5;
    serial = 0;
    log = [];
    marks = 10 ∷ [];
    stopped = None;
    tells = true;
    device = device;
  }

  -- the claim is of a generation that the blob had: the copy is lost, and the cluster clear again
  pub loses : (q : StoreState) → q ≡ record state {
    rows = λ other. if other == 0 then record { left = writes; stage = Idle; claim = None } else rows other;
    clusters = [];
  } → LosesCopy state q
  loses q is = record {
    left = 1;
    copying = record {
      row = 0;
      left = writes;
      claim = claim;
      is = refl;
      works = own (Head 0) 8 (Fill 7) (c.Flush ∷ [])
          refl;
    };
    runs = refl;
    late = λ same. cc same;
    next = is;
  }

  -- nor is it wanted, so that nothing is asked of its copies
  pub not_wanted : IsWanted state claim → ⊥
  not_wanted wanted = cc wanted.current
