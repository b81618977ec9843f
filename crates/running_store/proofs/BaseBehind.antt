-- What the device says behind a replacement.
use Rattle.std.proofs.Common.{◌≡◌, ◌≢◌, ℕ, ◌==◌, Bool, true, false, if◌then◌else◌, List, Option, Some, None, refl, sym}
use Rattle.std.proofs.Common.{ap}
use Rattle.std.proofs.Common.{◌∙◌, inl, inr, subst, IfSome, IsSome}
use Rattle.std.specs.Prelude.{is_some}
use Rattle.std.specs.Option.{option_or}
use Rattle.std.specs.Ordering.{nat_cmp}
use Rattle.std.specs.FinMap as map
use Rattle.std.proofs.Math.Path.{fun_ext}
use Rattle.std.proofs.lemmas.Bool.{cases_eq, eq-eqb, ne_eqb}
use Rattle.blob_meta.specs.declared.meta.Meta.{Meta}
use Rattle.blob_meta.specs.Resolving.{mark_of, resolved}
use Rattle.store_model.specs.Maps.{with_entry, with_option, without_entry, Metas}
use Rattle.store_model.proofs.WithEntry.{given_elsewhere, given_here, option_elsewhere}
use Rattle.running_store.specs.Blobs.{blobs_behind, commit_of, head_of, marked_given, metas_given, shows_of, Blobs}
use Rattle.running_store.specs.Blobs.{CanBeKept, HasPlacesFor}
use Rattle.running_store.specs.Places.{changed_at, with_changes}
use Rattle.running_store.specs.StoreView.{base_of, AreResolved}
use Rattle.running_store.specs.declared.entries.EntryChange.{EntryChange}
use Rattle.running_store.specs.declared.replacements.Change.{Change}
use Rattle.running_store.specs.declared.replacements.Change.TheVariants as change
use Rattle.running_store.proofs.Maps.{changed_given, insert_given, remove_given}
use Rattle.running_store.proofs.Resolved.{base_given}
use Rattle.running_store.proofs.Without.{base_gone}

abbrev MetaMap : Type 0
MetaMap = map.FinMap nat_cmp Meta

-- what a replacement gives its blob
abbrev pub new_of : Change → Option Meta
new_of (change.Writes p) = Some p.new
new_of (change.Erases e) = None

-- a blob that has a mark is said as it is marked, whatever it resolves to
base_shown : (metas marked : MetaMap) (o : Option (EntryChange Meta)) → IfSome o (λ x. IsSome (map.get marked x.head))
    → base_of (with_changes metas o) marked ≡ base_of metas marked
base_shown metas marked None there = refl
base_shown metas marked (Some x) there = fun_ext (λ q. elim (cases_eq q x.head) [
  | inl e ↦ aside (map.get marked q) (subst (λ (h : ℕ). IsSome (map.get marked h)) (sym e) there)
      (map.get (changed_at metas x.head x.value) q) (map.get metas q)
  | inr ne ↦ ap (λ (o : Option Meta). option_or (map.get marked q) o)
      (ap (λ (f : Metas). f q) (changed_given metas x.head x.value)
      ∙ option_elsewhere (map.get metas) x.head x.value q ne)
])
  where
    aside : (o : Option Meta) → IsSome o → (a b : Option Meta) → option_or o a ≡ option_or o b
    aside None some a b = absurd (cc some)
    aside (Some m) some a b = refl

gone_here : (m : Metas) (head h : ℕ) → h ≡ head → without_entry m head h ≡ None
gone_here m head h e = rw (eq-eqb h head e) refl

gone_still : (marked : MetaMap) (head q : ℕ) → q ≢ head → map.get (map.remove marked head) q ≡ map.get marked q
gone_still marked head q ne = ap (λ (f : Metas). f q) (remove_given marked head) ∙ rw (ne_eqb q head ne) refl

module _ (metas marked : MetaMap) (head : ℕ) (new : Meta) where
  -- a blob that gets a mark
  base_marked : base_of metas (map.insert marked head new) ≡ with_entry (base_of metas marked) head new
  base_marked = fun_ext (λ q.
      ap (λ (f : Metas). option_or (f q) (map.get metas q)) (insert_given marked head new)
      ∙ by (q == head) (map.get marked q) (map.get metas q))
    where
      by : (b : Bool) (x y : Option Meta)
          → option_or (if b then Some new else x) y ≡ (if b then Some new else option_or x y)
      by true x y = refl
      by false x y = refl

  -- a blob with other metadata, marked or not
  base_new : base_of (metas_given metas head new) (marked_given marked head new)
      ≡ with_entry (base_of metas marked) head new
  base_new = by (is_some (mark_of new))
    where
      by : (b : Bool) → base_of (if b then metas else map.insert metas head new)
          (if b then map.insert marked head new else map.remove marked head)
          ≡ with_entry (base_of metas marked) head new
      by true = base_marked
      by false = base_given metas marked head new

  -- another blob keeps its mark
  aside_still : (q : ℕ) → q ≢ head → map.get (marked_given marked head new) q ≡ map.get marked q
  aside_still q ne = by (is_some (mark_of new))
    where
      by : (b : Bool) → map.get (if b then map.insert marked head new else map.remove marked head) q ≡ map.get marked q
      by true = ap (λ (f : Metas). f q) (insert_given marked head new) ∙ given_elsewhere (map.get marked) head new q ne
      by false = gone_still marked head q ne

-- the blob that is shown otherwise has its mark still
shown_aside : (marked later : MetaMap) (head : ℕ) → ((q : ℕ) → q ≢ head → map.get later q ≡ map.get marked q)
    → (o : Option (EntryChange Meta)) → IfSome o (λ x. (x.head ≢ head) × IsSome (map.get marked x.head))
    → IfSome o (λ x. IsSome (map.get later x.head))
shown_aside marked later head still None is = tt
shown_aside marked later head still (Some x) is =
    subst (λ (o : Option Meta). IsSome o) (sym (still x.head is.0)) is.1

-- Behind a replacement the device says the blob's new metadata, or none, and all others as before.
pub base_behind_by : (b : Blobs) (x : Change)
    → IfSome (shows_of (commit_of x)) (λ other. (other.head ≢ head_of x) × IsSome (map.get b.marked other.head))
    → base_of (blobs_behind b x).metas (blobs_behind b x).marked
    ≡ with_option (base_of b.metas b.marked) (head_of x) (new_of x)
base_behind_by b (change.Writes p) shows =
    let shown : base_of (with_changes (metas_given b.metas p.head p.new) (shows_of p.effects.commit))
    (marked_given b.marked p.head p.new)
    ≡ base_of (metas_given b.metas p.head p.new) (marked_given b.marked p.head p.new) =
    base_shown (metas_given b.metas p.head p.new) (marked_given b.marked p.head p.new) (shows_of p.effects.commit)
    (shown_aside b.marked (marked_given b.marked p.head p.new) p.head (aside_still b.metas b.marked p.head p.new)
    (shows_of p.effects.commit) shows) in
    shown ∙ base_new b.metas b.marked p.head p.new
base_behind_by b (change.Erases e) shows =
    let shown : base_of (with_changes (map.remove b.metas e.head) (shows_of e.commit)) (map.remove b.marked e.head)
    ≡ base_of (map.remove b.metas e.head) (map.remove b.marked e.head) =
    base_shown (map.remove b.metas e.head) (map.remove b.marked e.head) (shows_of e.commit)
    (shown_aside b.marked (map.remove b.marked e.head) e.head (gone_still b.marked e.head) (shows_of e.commit)
    shows) in
    shown ∙ base_gone b.metas b.marked e.head

pub base_behind : (b : Blobs) (x : Change) → CanBeKept b x
    → base_of (blobs_behind b x).metas (blobs_behind b x).marked
    ≡ with_option (base_of b.metas b.marked) (head_of x) (new_of x)
base_behind b x can = base_behind_by b x can.shows

-- ---- that it can be kept

-- a blob that is aside behind a replacement has a mark
marks_behind : (b : Blobs) (x : Change) → ((h : ℕ) (m : Meta) → map.get b.marked h ≡ Some m → mark_of m ≢ None)
    → (h : ℕ) (m : Meta) → map.get (blobs_behind b x).marked h ≡ Some m → mark_of m ≢ None
marks_behind b (change.Writes p) marks h m was = by (mark_of p.new) refl was
  where
    by : (o : Option (List ℕ)) → mark_of p.new ≡ o
        → map.get (if is_some o then map.insert b.marked p.head p.new else map.remove b.marked p.head) h ≡ Some m
        → mark_of m ≢ None
    by None is there = elim (cases_eq h p.head) [
      | inl e ↦ absurd (let bad = sym (ap (λ (f : Metas). f h) (remove_given b.marked p.head)
          ∙ gone_here (map.get b.marked) p.head h e) ∙ there in cc bad)
      | inr ne ↦ marks h m (sym (gone_still b.marked p.head h ne) ∙ there)
    ]
    by (Some mark) is there = elim (cases_eq h p.head) [
      | inl e ↦
          let given = sym (ap (λ (f : Metas). f h) (insert_given b.marked p.head p.new)
          ∙ given_here (map.get b.marked) p.head p.new h e) ∙ there in
          let one : p.new ≡ m = cc given in
          λ none. let bad = sym is ∙ ap mark_of one ∙ none in cc bad
      | inr ne ↦ marks h m (sym (ap (λ (f : Metas). f h) (insert_given b.marked p.head p.new)
          ∙ given_elsewhere (map.get b.marked) p.head p.new h ne) ∙ there)
    ]
marks_behind b (change.Erases e) marks h m there = elim (cases_eq h e.head) [
  | inl eq ↦ absurd (let bad = sym (ap (λ (f : Metas). f h) (remove_given b.marked e.head)
      ∙ gone_here (map.get b.marked) e.head h eq) ∙ there in cc bad)
  | inr ne ↦ marks h m (sym (gone_still b.marked e.head h ne) ∙ there)
]

-- A replacement can be kept where the store has in memory then what the device's metadata resolves to.
pub kept_by : (b : Blobs) (x : Change) → AreResolved b.metas b.marked → HasPlacesFor b x
    → IfSome (shows_of (commit_of x)) (λ other. (other.head ≢ head_of x) × IsSome (map.get b.marked other.head))
    → map.get (blobs_behind b x).metas ≡ resolved (with_option (base_of b.metas b.marked) (head_of x) (new_of x))
    → CanBeKept b x
kept_by b x are places shows got = record {
  places = places;
  shows = shows;
  resolved = record {
    marks = marks_behind b x are.marks;
    resolves = ap resolved (base_behind_by b x shows) ∙ sym got;
  };
}
