-- Replacements by what they give their blobs, and whether they can be kept in memory.
use Rattle.std.proofs.Common.{◌≡◌, ◌≢◌, ◌∙◌, ℕ, Bool, true, false, if◌then◌else◌, List, Option, Some, None, refl, sym}
use Rattle.std.proofs.Common.{ap, subst, IfSome, IsSome}
use Rattle.std.specs.Prelude.{is_some}
use Rattle.std.specs.Ordering.{nat_cmp}
use Rattle.std.specs.FinMap as map
use Rattle.blob_meta.specs.declared.meta.Meta.{Meta}
use Rattle.blob_meta.specs.Resolving.{mark_of, resolved}
use Rattle.store_model.specs.Maps.{with_entry, with_option, without_entry, Metas}
use Rattle.running_store.specs.Blobs.{blobs_behind, commit_of, head_of, marked_given, metas_given, shows_of, Blobs}
use Rattle.running_store.specs.Blobs.{CanBeKept, HasPlacesFor}
use Rattle.running_store.specs.Places.{with_changes}
use Rattle.running_store.specs.StoreView.{base_of, AreResolved}
use Rattle.running_store.specs.declared.entries.EntryChange.{EntryChange}
use Rattle.running_store.specs.declared.replacements.Change.{Change}
use Rattle.running_store.specs.declared.replacements.Change.TheVariants as change
use Rattle.running_store.proofs.BaseBehind.{base_behind_by, kept_by, new_of}
use Rattle.running_store.proofs.Maps.{changed_given, insert_given, remove_given}

abbrev MetaMap : Type 0
MetaMap = map.FinMap nat_cmp Meta

-- A replacement gives a blob this metadata, or none, and its commit, if it is one, shows another blob so.
pub record IsChange (x : Change) (head : ℕ) (new : Option Meta) (shows : Option (EntryChange Meta)) : Type 0 where
  pub head_is : head_of x ≡ head
  pub new_is : new_of x ≡ new
  pub shows_is : shows_of (commit_of x) ≡ shows

-- ---- the maps behind it

abbrev pub metas_by : Metas → ℕ → Option Meta → Metas
metas_by m head None = without_entry m head
metas_by m head (Some new) = if is_some (mark_of new) then m else with_entry m head new

abbrev pub marks_by : Metas → ℕ → Option Meta → Metas
marks_by m head None = without_entry m head
marks_by m head (Some new) = if is_some (mark_of new) then with_entry m head new else without_entry m head

abbrev pub shown_by : Metas → Option (EntryChange Meta) → Metas
shown_by m None = m
shown_by m (Some x) = with_option m x.head x.value

shown_are : (m : MetaMap) (o : Option (EntryChange Meta)) → map.get (with_changes m o) ≡ shown_by (map.get m) o
shown_are m None = refl
shown_are m (Some x) = changed_given m x.head x.value

own_metas : (m : MetaMap) (head : ℕ) (new : Meta)
    → map.get (metas_given m head new) ≡ metas_by (map.get m) head (Some new)
own_metas m head new = by (is_some (mark_of new))
  where
    by : (b : Bool) → map.get (if b then m else map.insert m head new)
        ≡ (if b then map.get m else with_entry (map.get m) head new)
    by true = refl
    by false = insert_given m head new

own_marks : (m : MetaMap) (head : ℕ) (new : Meta)
    → map.get (marked_given m head new) ≡ marks_by (map.get m) head (Some new)
own_marks m head new = by (is_some (mark_of new))
  where
    by : (b : Bool) → map.get (if b then map.insert m head new else map.remove m head)
        ≡ (if b then with_entry (map.get m) head new else without_entry (map.get m) head)
    by true = insert_given m head new
    by false = remove_given m head

metas_are : (b : Blobs) (x : Change) → map.get (blobs_behind b x).metas
    ≡ shown_by (metas_by (map.get b.metas) (head_of x) (new_of x)) (shows_of (commit_of x))
metas_are b (change.Writes p) =
    shown_are (metas_given b.metas p.head p.new) (shows_of p.effects.commit)
    ∙ ap (λ (m : Metas). shown_by m (shows_of p.effects.commit)) (own_metas b.metas p.head p.new)
metas_are b (change.Erases e) =
    shown_are (map.remove b.metas e.head) (shows_of e.commit)
    ∙ ap (λ (m : Metas). shown_by m (shows_of e.commit)) (remove_given b.metas e.head)

marks_are : (b : Blobs) (x : Change)
    → map.get (blobs_behind b x).marked ≡ marks_by (map.get b.marked) (head_of x) (new_of x)
marks_are b (change.Writes p) = own_marks b.marked p.head p.new
marks_are b (change.Erases e) = remove_given b.marked e.head

abbrev CanShow : Blobs → ℕ → Option (EntryChange Meta) → Type 0
CanShow b head o = IfSome o (λ other. (other.head ≢ head) × IsSome (map.get b.marked other.head))

module _ (b : Blobs) (x : Change) (head : ℕ) (new : Option Meta) (shows : Option (EntryChange Meta))
    (is : IsChange x head new shows) where
  -- what the store has in memory behind it
  pub metas_behind : map.get (blobs_behind b x).metas ≡ shown_by (metas_by (map.get b.metas) head new) shows
  metas_behind = metas_are b x
      ∙ (λ i. shown_by (metas_by (map.get b.metas) (is.head_is i) (is.new_is i)) (is.shows_is i))

  -- what it keeps aside
  pub marked_behind : map.get (blobs_behind b x).marked ≡ marks_by (map.get b.marked) head new
  marked_behind = marks_are b x ∙ (λ i. marks_by (map.get b.marked) (is.head_is i) (is.new_is i))

  can_show : CanShow b head shows → CanShow b (head_of x) (shows_of (commit_of x))
  can_show can = subst (λ (h : ℕ). CanShow b h (shows_of (commit_of x))) (sym is.head_is)
      (subst (λ (o : Option (EntryChange Meta)). CanShow b head o) (sym is.shows_is) can)

  given_is : with_option (base_of b.metas b.marked) (head_of x) (new_of x)
      ≡ with_option (base_of b.metas b.marked) head new
  given_is = λ i. with_option (base_of b.metas b.marked) (is.head_is i) (is.new_is i)

  -- what the device says behind it
  pub base_then : CanShow b head shows → base_of (blobs_behind b x).metas (blobs_behind b x).marked
      ≡ with_option (base_of b.metas b.marked) head new
  base_then can = base_behind_by b x (can_show can) ∙ given_is

  -- It can be kept where the store has in memory then what that resolves to.
  pub kept_as : AreResolved b.metas b.marked → HasPlacesFor b x → CanShow b head shows
      → shown_by (metas_by (map.get b.metas) head new) shows
      ≡ resolved (with_option (base_of b.metas b.marked) head new)
      → CanBeKept b x
  kept_as are places can got = kept_by b x are places (can_show can) (metas_behind ∙ got ∙ ap resolved (sym given_is))

-- ---- by the mark of the new metadata

-- what a blob with a mark resolves to stays
pub marked_stays : (m : Metas) (head : ℕ) (new : Meta) (mark : List ℕ) → mark_of new ≡ Some mark
    → metas_by m head (Some new) ≡ m
marked_stays m head new mark is = rw is refl

-- and it is aside
pub marked_aside : (m : Metas) (head : ℕ) (new : Meta) (mark : List ℕ) → mark_of new ≡ Some mark
    → marks_by m head (Some new) ≡ with_entry m head new
marked_aside m head new mark is = rw is refl

-- one without a mark is as it is written
pub plain_given : (m : Metas) (head : ℕ) (new : Meta) → mark_of new ≡ None
    → metas_by m head (Some new) ≡ with_entry m head new
plain_given m head new none = rw none refl
