-- Three replacements of a job can be kept in memory: the first keeps a blob aside by a mark, the commit gives another
-- blob its metadata and shows the first one as the last replacement leaves it.
use Rattle.std.proofs.Common.{◌≡◌, ◌≢◌, ◌∙◌, ℕ, List, Option, Some, None, refl, sym, ap, subst, IfSome, IsSome}
use Rattle.std.proofs.Common.{inl, inr}
use Rattle.std.specs.FinMap as map
use Rattle.std.proofs.lemmas.Bool.{cases_eq}
use Rattle.std.proofs.Math.Path.{fun_ext}
use Rattle.blob_meta.specs.declared.meta.Meta.{Meta}
use Rattle.blob_meta.specs.Resolving.{mark_of, resolved}
use Rattle.shown_volumes.proofs.WithEntry.{given_here}
use Rattle.store_model.specs.Maps.{with_entry, with_option, Metas}
use Rattle.store_model.proofs.WithEntry.{option_elsewhere, option_here}
use Rattle.running_store.specs.Blobs.{blobs_behind, Blobs, CanBeKept, HasPlacesFor}
use Rattle.running_store.specs.StoreView.{base_of, AreResolved}
use Rattle.running_store.specs.declared.entries.EntryChange.{EntryChange}
use Rattle.running_store.specs.declared.replacements.Change.{Change}
use Rattle.running_store.proofs.KeptAs.{base_then, kept_as, marked_aside, marked_behind, marked_stays, metas_behind}
use Rattle.running_store.proofs.KeptAs.{plain_given, IsChange, metas_by, shown_by}

-- a blob that is given or gone twice is as it was
again : (m : Metas) (head : ℕ) (value : Option Meta) → IfSome value (λ new. mark_of new ≡ None)
    → metas_by (with_option m head value) head value ≡ with_option m head value
again m head value plain = by value plain ∙ fun_ext (λ q. elim (cases_eq q head) [
  | inl e ↦ option_here (with_option m head value) head value q e ∙ sym (option_here m head value q e)
  | inr ne ↦ option_elsewhere (with_option m head value) head value q ne
])
  where
    by : (o : Option Meta) → IfSome o (λ new. mark_of new ≡ None)
        → metas_by (with_option m head value) head o ≡ with_option (with_option m head value) head o
    by None _ = refl
    by (Some new) none = plain_given (with_option m head value) head new none

module _ (b : Blobs) (head other : ℕ) (aside new : Meta) (value : Option Meta) (room : Option ℕ)
    (begin commit finish : Change) where
  -- the marked blob, as the commit shows it
  abbrev shown : EntryChange Meta
  shown = record { head = head; value = value; room = room }

  abbrev marked_blobs : Blobs
  marked_blobs = blobs_behind b begin

  abbrev done_blobs : Blobs
  done_blobs = blobs_behind marked_blobs commit

  -- the three, for which there is room
  pub record AreByMark : Type 0 where
    pub begins : IsChange begin head (Some aside) None
    pub commits : IsChange commit other (Some new) (Some shown)
    pub finishes : IsChange finish head value None
    pub room_begins : HasPlacesFor b begin
    pub room_commits : HasPlacesFor marked_blobs commit
    pub room_finishes : HasPlacesFor done_blobs finish

  -- what the store has in memory and what the device says before them, and what the device says on the way
  pub record GoesByMark (base before : Metas) (mark : List ℕ) : Type 0 where
    pub has : map.get b.metas ≡ base
    pub is : base_of b.metas b.marked ≡ before
    pub resolved_first : AreResolved b.metas b.marked
    pub apart : head ≢ other
    pub marked : mark_of aside ≡ Some mark
    pub plain : mark_of new ≡ None
    pub plain_value : IfSome value (λ x. mark_of x ≡ None)
    pub undone : resolved (with_entry before head aside) ≡ base
    pub done : resolved (with_entry (with_entry before head aside) other new)
        ≡ with_option (with_entry base other new) head value
    pub finished : resolved (with_option (with_entry (with_entry before head aside) other new) head value)
        ≡ with_option (with_entry base other new) head value

  module _ (base before : Metas) (mark : List ℕ) (all : AreByMark) (goes : GoesByMark base before mark) where
    kept_begin : CanBeKept b begin
    kept_begin = kept_as b begin head (Some aside) None all.begins goes.resolved_first all.room_begins tt
        (marked_stays (map.get b.metas) head aside mark goes.marked ∙ goes.has
        ∙ sym (ap (λ (m : Metas). resolved (with_entry m head aside)) goes.is ∙ goes.undone))

    marked_base : base_of marked_blobs.metas marked_blobs.marked ≡ with_entry before head aside
    marked_base = base_then b begin head (Some aside) None all.begins tt
        ∙ ap (λ (m : Metas). with_entry m head aside) goes.is

    marked_metas : map.get marked_blobs.metas ≡ base
    marked_metas = metas_behind b begin head (Some aside) None all.begins
        ∙ marked_stays (map.get b.metas) head aside mark goes.marked ∙ goes.has

    is_aside : map.get marked_blobs.marked head ≡ Some aside
    is_aside =
        ap (λ (m : Metas). m head) (marked_behind b begin head (Some aside) None all.begins
        ∙ marked_aside (map.get b.marked) head aside mark goes.marked)
        ∙ given_here (map.get b.marked) head aside head refl

    can_show : IfSome (Some shown) (λ x. (x.head ≢ other) × IsSome (map.get marked_blobs.marked x.head))
    can_show = (goes.apart, subst (λ (o : Option Meta). IsSome o) (sym is_aside) refl)

    commit_gives : shown_by (metas_by (map.get marked_blobs.metas) other (Some new)) (Some shown)
        ≡ with_option (with_entry base other new) head value
    commit_gives = ap (λ (m : Metas). with_option m head value)
        (plain_given (map.get marked_blobs.metas) other new goes.plain
        ∙ ap (λ (m : Metas). with_entry m other new) marked_metas)

    kept_commit : CanBeKept marked_blobs commit
    kept_commit = kept_as marked_blobs commit other (Some new) (Some shown) all.commits kept_begin.resolved
        all.room_commits can_show
        (commit_gives ∙ sym (ap (λ (m : Metas). resolved (with_entry m other new)) marked_base ∙ goes.done))

    done_base : base_of done_blobs.metas done_blobs.marked ≡ with_entry (with_entry before head aside) other new
    done_base = base_then marked_blobs commit other (Some new) (Some shown) all.commits can_show
        ∙ ap (λ (m : Metas). with_entry m other new) marked_base

    done_metas : map.get done_blobs.metas ≡ with_option (with_entry base other new) head value
    done_metas = metas_behind marked_blobs commit other (Some new) (Some shown) all.commits ∙ commit_gives

    kept_finish : CanBeKept done_blobs finish
    kept_finish = kept_as done_blobs finish head value None all.finishes kept_commit.resolved all.room_finishes tt
        (ap (λ (m : Metas). metas_by m head value) done_metas ∙ again (with_entry base other new) head value
        goes.plain_value ∙ sym (ap (λ (m : Metas). resolved (with_option m head value)) done_base ∙ goes.finished))

    pub marked_kept : CanBeKept b begin × CanBeKept marked_blobs commit × CanBeKept done_blobs finish
    marked_kept = (kept_begin, kept_commit, kept_finish)
