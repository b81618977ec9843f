-- Runs of repairs alone, and how far a repair has come.
use Rattle.std.specs.Prelude.{◌≡◌, ℕ, ◌<◌, Bool, true, List, [], ◌∷◌, All, length, Some, is_some}
use Rattle.std.specs.Option.{option_and_then}
use Rattle.blob_meta.specs.Repairs.{heads_where}
use Rattle.blob_meta.specs.Resolving.{mark_of}
use Rattle.store_model.specs.Cases.{Kind, Run, the}
use Rattle.store_model.specs.Cases as kind
use Rattle.store_model.specs.Maps.{Metas}
use Rattle.store_model.specs.Phases.{Phase, Replaces, Replacing}
use Rattle.store_model.specs.StoreState.{ForRepair, JobState, StoreState, turns_left as turns_of}

-- ---- turns

-- A turn of a repair: it begins, or its job goes on. (The job of a command has turns of these kinds too, but doesn't
-- begin by one.)
abbrev pub IsOfRepair : Kind → Type 0
IsOfRepair kind.begins_repair = Unit {0}
IsOfRepair other = (the other).OfJob

-- the kinds that an insert's job alone has
abbrev pub IsOfInsert : Kind → Type 0
IsOfInsert kind.inserts = Unit {0}
IsOfInsert kind.insert_ends = Unit {0}
IsOfInsert kind.insert_fails = Unit {0}
IsOfInsert kind.insert_breaks_down = Unit {0}
IsOfInsert other = ⊥

-- Turns of repairs alone lead from one state to another.
pub record RepairRun (told : Bool) (p q : StoreState) : Type 0 where
  pub kinds : List Kind
  pub of_repair : All IsOfRepair kinds
  pub run : Run told p kinds q

-- ---- how far a repair has come

-- whether a blob is at this head and has a mark
abbrev pub has_mark : Metas → ℕ → Bool
has_mark metas head = is_some (option_and_then mark_of (metas head))

-- how many blobs have a mark
abbrev pub marks_left : StoreState → ℕ
marks_left p = length (heads_where p.super.md_len (has_mark p.base))

-- how many turns are left of the running job
abbrev pub store_turns_left : StoreState → ℕ
store_turns_left p = turns_of p.job

-- the replacements that are left to do
abbrev pub replacements_left : List Phase → List Replacing
replacements_left [] = []
replacements_left (Replaces r commit ∷ rest) = r ∷ replacements_left rest
replacements_left (_ ∷ rest) = replacements_left rest

-- A repair's job has one replacement left to do, of a blob with a mark.
pub record HasOneToMend (p : StoreState) : Type 0 where
  pub job : JobState
  pub is : p.job ≡ Some job
  pub serves : job.serves ≡ ForRepair
  pub replacing : Replacing
  pub one : replacements_left job.todo ≡ replacing ∷ []
  pub marked : has_mark p.base replacing.head ≡ true

-- the running job, if there is one, is a repair's with no replacement left to do
abbrev pub HasNoneToMend : StoreState → Type 0
HasNoneToMend p = (job : JobState) → p.job ≡ Some job
    → (job.serves ≡ ForRepair) × (replacements_left job.todo ≡ [])

-- A repair that began where this many blobs had a mark is still to mend one of them, or has left fewer.
pub data IsMending (marks : ℕ) (p : StoreState) : Type 0 where
  to_mend : HasOneToMend p → marks_left p ≡ marks → IsMending marks p
  mended : HasNoneToMend p → marks_left p < marks → IsMending marks p
