-- The job at the end of an inflate or a decouple shows the volumes as they were, and then those of the step.
use Rattle.std.proofs.Common.{◌≡◌, ◌≢◌, ℕ, ◌*◌, ◌/◌, ◌%◌, ◌==◌, false, Option, Some, None, refl, sym, ap, ◌∙◌, subst}
use Rattle.std.proofs.Common.{arith}
use Rattle.std.specs.Prelude.{codes, is_none}
use Rattle.std.specs.Option.{option_and_then}
use Rattle.std.proofs.lemmas.Bool.{eq-eqb, false≢true, ne_eqb}
use Rattle.page_disk.specs.Disk.{Image}
use Rattle.volume_model.specs.Steps.{edited}
use Rattle.volume_model.specs.Volumes.{Fixed, head_of, Volume, Volumes}
use Rattle.volume_model.specs.Xattrs.{without, Xattrs}
use Rattle.volume_model.specs.declared.command.Command.TheVariants as c
use Rattle.volume_model.specs.declared.command.VolumeRef.{VolumeRef}
use Rattle.volume_model.specs.declared.reply.Reply.TheVariants as r
use Rattle.volume_model.proofs.Blank.{same_named}
use Rattle.blob_meta.specs.declared.meta.Meta.{Meta}
use Rattle.blob_meta.specs.Parents.{parent_of}
use Rattle.snapshots.specs.Marks.{with_parent_of}
use Rattle.inflate_delete.specs.FillJobs.{fill_job}
use Rattle.inflate_delete.specs.Fills.{command_of, IsFilled, parent_blob}
use Rattle.inflate_delete.specs.declared.filling.FillKind.{FillKind}
use Rattle.inflate_delete.specs.declared.filling.FillKind.TheVariants.{Inflate, Decouple}
use Rattle.shown_volumes.specs.JobLaws.{ShowsFill}
use Rattle.shown_volumes.specs.Maps.{Map, Metas}
use Rattle.shown_volumes.specs.Shown.{shown_by}
use Rattle.shown_volumes.specs.ShowsStep.{IsAskedOf, IsAtRest, ShowsStep}
use Rattle.shown_volumes.proofs.Blanked.{blank_shown}
use Rattle.shown_volumes.proofs.BlobsShown.{shows_blob, volume_at}
use Rattle.shown_volumes.proofs.Decouples.{decoupled_keeps, decoupled_raised}
use Rattle.shown_volumes.proofs.Inflates.{inflated_keeps, inflated_raised}
use Rattle.shown_volumes.proofs.Parts.{rest_resolved}
use Rattle.shown_volumes.proofs.Passing.{decouple_long, decouple_parent}
use Rattle.shown_volumes.proofs.ReparentedShows as reparented
use Rattle.shown_volumes.proofs.TakenOver.{IsLongBetween, long_between}
use Rattle.shown_volumes.proofs.Valued.{parent_given, parent_in, parent_without}

-- ---- a step that edits the volume that is meant

module _ (f : Fixed) (v : Volumes) (volume : VolumeRef) (of : ℕ) (found : head_of f v volume ≡ Some of)
    (edit : Volume → Volume) where
  edited_here : (x : Volume) → v of ≡ Some x → edited f v volume edit of ≡ Some (edit x)
  edited_here x is = rw (found, eq-eqb of of refl, is) refl

  edited_else : (h : ℕ) → h ≢ of → edited f v volume edit h ≡ v h
  edited_else h ne = rw (found, ne_eqb h of ne) refl

thick : (n : ℕ) → (n / 2 * 2 % 2 == 1) ≡ false
thick n = ne_eqb (n / 2 * 2 % 2) 1 (λ odd. omega (arith, odd))

module _ (f : Fixed) (base : Metas) (live : Map Xattrs) (image : Image) (volume : VolumeRef) (of : ℕ) (old : Meta)
    (rest : IsAtRest f base) where
  abbrev shown : Image → Volumes
  shown other = shown_by f other base live

  abbrev x : Image → Volume
  x other = volume_at f base rest live other of old

  inflates : IsFilled base of Inflate → IsAskedOf f (shown image) base (c.Inflate volume) of old
      → ShowsStep f base live (c.Inflate volume) r.Ok (fill_job Inflate of old (parent_blob base old))
  inflates filled asked =
      let edit = λ (y : Volume). record y { thin = false; parent = None } in
      reparented.step f base rest of old (old.flags.invalid / 2 * 2) (without old.internal (codes "SNAP")) asked.there
      (inflated_raised f base rest of old asked.there) (inflated_keeps f base rest of old asked.there filled) live
      (c.Inflate volume) r.Ok
      (λ other. edited_here f (shown other) volume of (meant other) edit (x other)
      (shows_blob f base rest live other of old asked.there)
      ∙ (λ i. Some (record (x other) {
        thin = sym (thick old.flags.invalid) i;
        parent = sym (parent_without old.internal) i;
      })))
      (λ other. edited_else f (shown other) volume of (meant other) edit)
    where
      meant : (other : Image) → head_of f (shown other) volume ≡ Some of
      meant other = same_named f (shown other) (shown image) (blank_shown f base live other image) (c.Inflate volume)
          ∙ asked.found

  decouples : IsFilled base of Decouple → IsAskedOf f (shown image) base (c.Decouple volume) of old
      → (p : ℕ) (parent : Meta) → parent_of old ≡ Some p → base p ≡ Some parent
      → ShowsStep f base live (c.Decouple volume) r.Ok (fill_job Decouple of old (Some parent))
  decouples filled asked p parent child there_too =
      reparented.step f base rest of old old.flags.invalid (with_parent_of old.internal parent) asked.there
      (decoupled_raised f base rest of old asked.there p parent child there_too)
      (decoupled_keeps f base rest of old asked.there p parent child there_too filled between) live
      (c.Decouple volume) r.Ok
      (λ other. edited_here f (shown other) volume of (meant other) (edit other) (x other)
      (shows_blob f base rest live other of old asked.there)
      ∙ (λ i. Some (record (x other) { parent = parent_is other i })))
      (λ other. edited_else f (shown other) volume of (meant other) (edit other))
    where
      meant : (other : Image) → head_of f (shown other) volume ≡ Some of
      meant other = same_named f (shown other) (shown image) (blank_shown f base live other image) (c.Decouple volume)
          ∙ asked.found

      between : IsLongBetween base parent old
      between = long_between f base rest live image p parent of old
          (decouple_long f (shown image) volume of (x image) asked.found
          (shows_blob f base rest live image of old asked.there) asked.passed p
          (volume_at f base rest live image p parent) child (shows_blob f base rest live image p parent there_too))

      edit : Image → Volume → Volume
      edit other y = record y { parent = option_and_then (λ z. z.parent) (option_and_then (shown other) y.parent) }

      parent_is : (other : Image)
          → (edit other (x other)).parent ≡ parent_in (with_parent_of old.internal parent)
      parent_is other =
          ap (λ o. option_and_then (λ (z : Volume). z.parent) (option_and_then (shown other) o)) child
          ∙ ap (option_and_then (λ (z : Volume). z.parent)) (shows_blob f base rest live other p parent there_too)
          ∙ sym (parent_given old.internal parent)

  parented : IsFilled base of Decouple → IsAskedOf f (shown image) base (c.Decouple volume) of old
      → (o : Option ℕ) → parent_of old ≡ o
      → ShowsStep f base live (c.Decouple volume) r.Ok (fill_job Decouple of old (parent_blob base old))
  parented filled asked None none = absurd (false≢true (sym (decouple_parent f (shown image) volume of (x image)
      asked.found (shows_blob f base rest live image of old asked.there) asked.passed) ∙ ap is_none none))
  parented filled asked (Some p) child =
      let up = rest.lawful.parents of p old asked.there child in
      subst (λ (o : Option Meta). ShowsStep f base live (c.Decouple volume) r.Ok (fill_job Decouple of old o))
      (sym (ap (option_and_then base) child ∙ up.1)) (decouples filled asked p up.0 child up.1)

  fills : (kind : FillKind) → IsFilled base of kind → IsAskedOf f (shown image) base (command_of kind volume) of old
      → ShowsStep f base live (command_of kind volume) r.Ok (fill_job kind of old (parent_blob base old))
  fills Inflate filled asked = inflates filled asked
  fills Decouple filled asked = parented filled asked (parent_of old) refl

-- the law
pub fill_shows : (f : Fixed) (base : Metas) (live : Map Xattrs) (image : Image) (volume : VolumeRef) (of : ℕ)
    (old : Meta) (kind : FillKind) → ShowsFill f base live image volume of old kind
fill_shows f base live image volume of old kind rest filled =
    subst (λ (m : Metas). IsAskedOf f (shown_by f image m live) base (command_of kind volume) of old
    → ShowsStep f base live (command_of kind volume) r.Ok (fill_job kind of old (parent_blob base old)))
    (sym (rest_resolved f base rest)) (fills f base live image volume of old rest kind filled)
