-- The clones of a blob, as they are counted in metadata, and in the volumes that it shows.
use Rattle.std.proofs.Common.{◌≡◌, ℕ, ◌<◌, Bool, true, false, ◌||◌, Option, Some, None, [], ◌∷◌, refl, sym, ap, ◌∙◌}
use Rattle.std.proofs.Common.{inl, inr}
use Rattle.std.specs.List.{filter}
use Rattle.std.specs.Option.{option_map, option_map_or}
use Rattle.std.proofs.lemmas.Bool.{cases_Bool, eq-eqb, eqb-true, false≢true}
use Rattle.std.proofs.Math.Path.{fun_ext}
use Rattle.page_disk.specs.Disk.{Image}
use Rattle.volume_model.specs.Volumes.{clones, Fixed, heads, is_given_head, Volume}
use Rattle.volume_model.specs.Xattrs.{Xattrs}
use Rattle.blob_meta.specs.declared.meta.Meta.{Meta}
use Rattle.blob_meta.specs.Parents.{parent_of}
use Rattle.blob_meta.proofs.HeadsListed.{among, among_failing, among_passing}
use Rattle.inflate_delete.specs.Clones.{clones_below, is_clone}
use Rattle.shown_volumes.specs.Maps.{Map, Metas}
use Rattle.shown_volumes.specs.Shown.{or_empty, shown_by, volume_of}
use Rattle.shown_volumes.proofs.Marked.{given_same}

-- the head that is given
given_is : (h : ℕ) (o : Option ℕ) → is_given_head h o ≡ true → o ≡ Some h
given_is h None is = absurd (false≢true is)
given_is h (Some k) is = ap (λ n. Some n) (eqb-true k h is)

or_false : (b : Bool) → (b || false) ≡ true → b ≡ true
or_false true is = refl
or_false false is = is

-- each clone is counted
pub counted : (md_len : ℕ) (base : Metas) (of h : ℕ) (m : Meta) → base h ≡ Some m → h < md_len → parent_of m ≡ Some of
    → among h (clones_below md_len base of) ≡ true
counted md_len base of h m is low parent = among_passing md_len (is_clone base of) h
    (ap (λ o. option_map_or (λ (x : Meta). is_given_head of (parent_of x)) o false) is
    ∙ ap (is_given_head of) parent ∙ given_same of) low

-- where none is counted no blob has it for its parent,
pub none_counted : (md_len : ℕ) (base : Metas) (of : ℕ) → clones_below md_len base of ≡ [] → (h : ℕ) (m : Meta)
    → base h ≡ Some m → h < md_len → parent_of m ≡ Some of → ⊥
none_counted md_len base of none h m is low parent =
    false≢true (sym (ap (among h) none) ∙ counted md_len base of h m is low parent)

-- and where one is counted no other has
pub one_counted : (md_len : ℕ) (base : Metas) (of clone : ℕ) → clones_below md_len base of ≡ clone ∷ []
    → (h : ℕ) (m : Meta) → base h ≡ Some m → h < md_len → parent_of m ≡ Some of → h ≡ clone
one_counted md_len base of clone one h m is low parent =
    eqb-true h clone (or_false _ (sym (ap (among h) one) ∙ counted md_len base of h m is low parent))

-- but that one has
pub counted_parent : (md_len : ℕ) (base : Metas) (of clone : ℕ) (m : Meta) → clones_below md_len base of ≡ clone ∷ []
    → base clone ≡ Some m → parent_of m ≡ Some of
counted_parent md_len base of clone m one is = elim (cases_Bool (is_clone base of clone)) [
  | inl passes ↦ given_is of (parent_of m)
      (sym (ap (λ o. option_map_or (λ (x : Meta). is_given_head of (parent_of x)) o false) is) ∙ passes)
  | inr fails ↦
      let here : among clone (clone ∷ []) ≡ true = ap (λ b. b || false) (eq-eqb clone clone refl) in
      absurd (false≢true (sym (among_failing md_len (is_clone base of) clone fails) ∙ ap (among clone) one ∙ here))
]

-- the volumes that are shown have the same clones
pub clones_shown : (f : Fixed) (base : Metas) (live : Map Xattrs) (image : Image) (of : ℕ)
    → clones f (shown_by f image base live) of ≡ clones_below f.md_len base of
clones_shown f base live image of = ap (λ (t : ℕ → Bool). filter t (heads f)) (fun_ext (λ h. at h (base h)))
  where
    at : (h : ℕ) (o : Option Meta)
        → option_map_or (λ (x : Volume). is_given_head of x.parent)
        (option_map (λ m. volume_of f.cluster_pages image base f.md_len (or_empty (live h)) h m) o) false
        ≡ option_map_or (λ (m : Meta). is_given_head of (parent_of m)) o false
    at h None = refl
    at h (Some m) = refl
