-- What contracts see of the running job.
use Rattle.std.specs.Prelude.{◌≡◌, ℕ, ◌<◌, is_some, Bool, false, List, [], ◌∷◌, ◌++◌, Option, None, Some, drop, length}
use Rattle.std.specs.Prelude.{take, IsSome}
use Rattle.std.specs.List.{AllByRecursion}
use Rattle.std.specs.Option.{option_map}
use Rattle.volume_model.specs.Volumes.{zero_page}
use Rattle.store_model.specs.Phases.{Committing, Phase, Replaces, Replacing, erasing, phases_of, writing}
use Rattle.store_model.specs.StoreState.{JobState, marked, Service, waiting, ForCommand, ForInsert, ForRepair}
use Rattle.store_model.specs.Places.{AreDistinct}
use Rattle.running_store.specs.Effects.{commit_seen}
use Rattle.running_store.specs.declared.effects.Effects.{Effects}
use Rattle.running_store.specs.declared.job.RunningJob.{RunningJob}
use Rattle.running_store.specs.declared.job.Serves.{Serves}
use Rattle.running_store.specs.declared.job.Serves.TheVariants as whom
use Rattle.running_store.specs.declared.job.Work.{Work}
use Rattle.running_store.specs.declared.job.Work.TheVariants as work
use Rattle.running_store.specs.declared.job.Zeroed.{Zeroed}
use Rattle.running_store.specs.declared.replacements.Change.{Change}
use Rattle.running_store.specs.declared.replacements.Change.TheVariants as change
use Rattle.running_store.specs.declared.replacements.Erasure.{Erasure}
use Rattle.running_store.specs.declared.replacements.LaidReplacement.{LaidReplacement}
use Rattle.running_store.specs.declared.replacements.Planned.{Planned}
use Rattle.running_store.specs.Zeroing.{zeros_from, IsLeft}

-- ---- what is planned, as the model has it

-- the replacement of a blob that is there, or one that makes a blob
abbrev pub replacing_of : Planned → List ℕ → Replacing
replacing_of p old = record {
  head = p.head;
  new = Some p.new;
  makes = is_some p.effects.rooms.chain;
  fresh = drop 1 p.chain;
  planned = p.pages;
  old = old;
  freed = p.effects.freed;
}

-- what it makes as the commit, where it is that
abbrev pub commit_in : Planned → Option Committing
commit_in p = option_map commit_seen p.effects.commit

-- the replacement that erases the blob at a head: a page of zeros goes over its head's
abbrev pub erasure_of : Erasure → List ℕ → Replacing
erasure_of e old = record {
  head = e.head;
  new = None;
  makes = false;
  fresh = [];
  planned = record { place = e.head; page = zero_page } ∷ [];
  old = old;
  freed = e.freed;
}

abbrev pub erasing_commit : Erasure → Option Committing
erasing_commit e = option_map commit_seen e.commit

-- ---- the replacements to come

-- the phases of one, and then others
abbrev pub phases_for : LaidReplacement → List Phase → List Phase
phases_for x others = by x.change
  where
    by : Change → List Phase
    by (change.Writes p) = phases_of (replacing_of p x.old) (commit_in p) others
    by (change.Erases e) = phases_of (erasure_of e x.old) (erasing_commit e) others

-- those of all, one after another
abbrev pub phases_in : List LaidReplacement → List Phase
phases_in [] = []
phases_in (x ∷ xs) = phases_for x (phases_in xs)

-- whether one is its job's commit
abbrev pub is_commit : LaidReplacement → Bool
is_commit x = by x.change
  where
    by : Change → Bool
    by (change.Writes p) = is_some p.effects.commit
    by (change.Erases e) = is_some e.commit

-- whether the one at work is it, and still to be made
abbrev pub commits_now : Work → Bool
commits_now (work.Zeroing p zeroed) = is_some p.effects.commit
commits_now (work.Writing p written) = is_some p.effects.commit
commits_now (work.Removing e) = is_some e.commit
commits_now (work.Erasing erased) = false

-- one that writes what is planned, and one that erases a blob
abbrev pub writes_laid : Planned → List ℕ → LaidReplacement
writes_laid p old = record { change = change.Writes p; old = old }

abbrev pub erases_laid : Erasure → List ℕ → LaidReplacement
erases_laid e old = record { change = change.Erases e; old = old }

-- those that a job has still to make
abbrev pub to_come : RunningJob → List LaidReplacement
to_come j = by j.work
  where
    by : Work → List LaidReplacement
    by (work.Zeroing p zeroed) = writes_laid p j.old ∷ j.later.items
    by (work.Writing p written) = writes_laid p j.old ∷ j.later.items
    by (work.Removing e) = erases_laid e j.old ∷ j.later.items
    by (work.Erasing erased) = j.later.items

-- ---- for whom a job is done

abbrev pub service_of : Serves → Service
service_of (whom.Command channel freeze) = ForCommand channel
service_of (whom.Insert channel) = ForInsert channel
service_of whom.Repair = ForRepair

-- the blob that it freezes, which only one of a command may do
abbrev pub freeze_of : Serves → Option ℕ
freeze_of (whom.Command channel freeze) = freeze
freeze_of other = None

-- ---- the job

-- a job of which so many fresh pages are written; behind its replacement come these phases
abbrev pub writing_for : Serves → Planned → List ℕ → ℕ → List Phase → JobState
writing_for serves p old written others = record {
  serves = service_of serves;
  freeze = freeze_of serves;
  claimed = p.effects.claimed;
  written = take written (drop 1 p.chain);
  todo = writing (drop written (drop 1 p.chain)) (Replaces (replacing_of p old) (commit_in p) ∷ erasing old old others);
}

-- a job of which so much of its claimed clusters is overwritten with zeros
abbrev pub zeroing_for : Serves → Planned → List ℕ → Zeroed → List Phase → JobState
zeroing_for serves p old z others = record (writing_for serves p old 0 others) {
  todo = zeros_from p.effects.claimed z ++ (writing_for serves p old 0 others).todo;
}

-- the job behind a page of zeros
abbrev pub behind_zero : JobState → JobState
behind_zero j = record j { todo = drop 1 j.todo }

-- a job that erases a blob
abbrev pub removing_for : Serves → Erasure → List ℕ → List Phase → JobState
removing_for serves e old others = record {
  serves = service_of serves;
  freeze = freeze_of serves;
  claimed = [];
  written = [];
  todo = Replaces (erasure_of e old) (erasing_commit e) ∷ erasing old old others;
}

-- a job behind a replacement, of which so many old pages are overwritten
abbrev pub erasing_for : Serves → List ℕ → ℕ → List Phase → JobState
erasing_for serves old erased others = record {
  serves = service_of serves;
  freeze = freeze_of serves;
  claimed = [];
  written = [];
  todo = erasing old (drop erased old) others;
}

-- A job at its begin: all pages of the clusters that it has claimed are to be overwritten with zeros, and then its
-- metadata is written.
abbrev pub begun_job : Serves → Planned → List ℕ → ℕ → List Phase → JobState
begun_job serves planned old cluster_pages others =
    zeroing_for serves planned old (record { cluster_pages = cluster_pages; clusters = 0; pages = 0 }) others

-- the job of which these phases are left, between two replacements; none where nothing is left
abbrev pub job_left : Serves → List Phase → Option JobState
job_left serves [] = None
job_left serves (x ∷ xs) = Some
    (record { serves = service_of serves; freeze = freeze_of serves; claimed = []; written = []; todo = x ∷ xs })

-- the channel that waits for a job: that of an insert to its end, that of a command to its commit
abbrev pub waits_for_job : JobState → Option ℕ
waits_for_job j = waiting j.serves j.todo

abbrev pub job_seen : RunningJob → JobState
job_seen j = marked j.marks (seen j.work)
  where
    seen : Work → JobState
    seen (work.Zeroing planned zeroed) = zeroing_for j.serves planned j.old zeroed (phases_in j.later.items)
    seen (work.Writing planned written) = writing_for j.serves planned j.old written (phases_in j.later.items)
    seen (work.Removing e) = removing_for j.serves e j.old (phases_in j.later.items)
    seen (work.Erasing erased) = erasing_for j.serves j.old erased (phases_in j.later.items)

-- ---- what is known of it

-- The chain that is to be written begins with its head, and each cluster is freed once.
pub record IsMatched (p : Planned) : Type 0 where
  pub headed : p.chain ≡ p.head ∷ drop 1 p.chain
  pub once : AreDistinct p.effects.freed

-- Nothing is done besides, for a blob that is there: it is no commit, and no cluster is claimed or freed.
pub record AreNone (e : Effects) : Type 0 where
  pub commit : e.commit ≡ None
  pub freed : e.freed ≡ []
  pub claimed : e.claimed ≡ []
  pub there : e.rooms.chain ≡ None

-- With what an insert or a repair writes nothing is done besides.
abbrev pub IsMatchedFor : Serves → Planned → Type 0
IsMatchedFor (whom.Command channel freeze) p = IsMatched p
IsMatchedFor (whom.Insert channel) p = IsMatched p × AreNone p.effects
IsMatchedFor whom.Repair p = IsMatched p × AreNone p.effects

-- Only a command's job overwrites clusters, before its commit.
abbrev pub IsZeroedFor : Serves → Planned → Zeroed → Type 0
IsZeroedFor (whom.Command channel freeze) p zeroed =
    IsMatched p × IsLeft p.effects.claimed zeroed × IsSome p.effects.commit
IsZeroedFor other p zeroed = ⊥

-- A job that erases a blob freezes none, an insert erases none, and a repair commits nothing; each cluster is freed
-- once.
abbrev pub IsRemovedFor : Serves → Erasure → Type 0
IsRemovedFor (whom.Command channel freeze) e = AreDistinct e.freed × (freeze ≡ None)
IsRemovedFor (whom.Insert channel) e = ⊥
IsRemovedFor whom.Repair e = AreDistinct e.freed × (e.commit ≡ None)

-- Behind a replacement of a command's job others may come, which claim no cluster; one of another job comes alone.
abbrev pub IsFollowing : Serves → LaidReplacement → Type 0
IsFollowing serves x = by x.change
  where
    by : Change → Type 0
    by (change.Writes p) = IsMatched p × (p.effects.claimed ≡ [])
    by (change.Erases e) = IsRemovedFor serves e

abbrev pub MayFollow : Serves → List LaidReplacement → Type 0
MayFollow (whom.Command channel freeze) later = AllByRecursion (IsFollowing (whom.Command channel freeze)) later
MayFollow other later = later ≡ []

abbrev pub IsHeaded : RunningJob → Type 0
IsHeaded j = headed j.work × MayFollow j.serves j.later.items
  where
    headed : Work → Type 0
    headed (work.Zeroing planned zeroed) = IsZeroedFor j.serves planned zeroed
    headed (work.Writing planned written) = IsMatchedFor j.serves planned
    headed (work.Removing e) = IsRemovedFor j.serves e
    headed (work.Erasing erased) = erased < length j.old
