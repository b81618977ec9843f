-- The jobs of clones and snapshots are jobs on a family of volumes.
use Rattle.std.proofs.Common.{◌≡◌, ◌≢◌, ℕ, ◌<◌, true, false, [], ◌∷◌, None, Some, refl, sym, ap, ◌∙◌, subst, inl, inr}
use Rattle.std.specs.Prelude.{is_some}
use Rattle.std.specs.Option.{option_map}
use Rattle.std.proofs.lemmas.Bool.{cases_eq, eq-eqb, ne_eqb}
use Rattle.page_disk.specs.Disk.{Image}
use Rattle.volume_model.specs.Names.{IsName}
use Rattle.volume_model.specs.Volumes.{Fixed, head_of, two_xattrs, Volume, Volumes}
use Rattle.volume_model.specs.Xattrs.{Text, Xattrs}
use Rattle.volume_model.specs.Refusals.{refusal}
use Rattle.volume_model.specs.Steps.{change, named_head}
use Rattle.volume_model.specs.declared.command.Command.{Command}
use Rattle.volume_model.specs.declared.command.Command.TheVariants as c
use Rattle.volume_model.specs.declared.command.VolumeRef.{VolumeRef}
use Rattle.volume_model.specs.declared.reply.Reply.TheVariants as r_
use Rattle.volume_model.proofs.Blank.{same_named, same_refusal}
use Rattle.blob_meta.specs.declared.meta.Meta.{Meta}
use Rattle.blob_meta.specs.Repairs.{HasNoMarks}
use Rattle.snapshots.specs.SnapshotJobs.{clone_job, new_clone, snapshot_job}
use Rattle.shown_volumes.specs.JobLaws.{IsClear}
use Rattle.shown_volumes.specs.ShowsStep.{part_of, replaces}
use Rattle.shown_volumes.proofs.Blanked.{two_same}
use Rattle.shown_volumes.proofs.Clones as clones
use Rattle.shown_volumes.proofs.Snapshots.{snapshot_shows}
use Rattle.shown_volumes.proofs.SnapshotShows as snapshots
use Rattle.shown_volumes.proofs.StoredJobs.{jobs_stored}
use Rattle.shown_volumes.proofs.WithEntry.{given_here}
use Rattle.store_model.specs.Maps.{with_option}
use Rattle.store_model.specs.RunInvariant.{RunsWell}
use Rattle.store_model.specs.Shown.{fixed_of}
use Rattle.store_model.specs.Steady.{CanBeWritten}
use Rattle.store_model.specs.StoreState.{live_of, shown}
use Rattle.store_model.proofs.ChangedLive.{is_live, lives_changed, made_commit, writable_changed}
use Rattle.store_model.proofs.FamilyStep.{at_rest, few_heads, IsFamilyJob}
use Rattle.store_model.proofs.Known.{Known}
use Rattle.store_model.proofs.Meanwhile.{blank_reading, reading}
use Rattle.store_model.proofs.NewBlob.{two_written}
use Rattle.store_model.proofs.Sets.{not_first}
use Rattle.store_model.proofs.VolumeShown.{is_its, its, was_stored}
use Rattle.store_model.proofs.Writable.{AllWritable}

module _ (known : Known) (unmarked : HasNoMarks known.p.base) where
  open known use {first, p, facts}

  abbrev f : Fixed
  f = fixed_of p.super

  module _ (runs : p.stopped ≡ None) (volume : VolumeRef) (name : Text) (named : IsName name) (of head : ℕ) (old : Meta)
      (there : p.base of ≡ Some old) (found : head_of f (shown p) volume ≡ Some of) (none : p.base head ≡ None)
      (low : head < p.super.md_len) where
    well : RunsWell first p
    well = facts.well runs

    abbrev xattrs : Xattrs
    xattrs = two_xattrs f (shown p) name None

    can : CanBeWritten xattrs
    can = two_written f (shown p) name None named

    clear : IsClear f p.base head
    clear = record { none = none; low = low }

    abbrev now : Image → Volumes
    now image = shown (reading p image)

    -- the volumes behind a step that makes the copy
    abbrev copied_by : Command → Image → Volumes
    copied_by command image = change f (now image) command (r_.Made head)

    module _ (image : Image) where
      two_now : two_xattrs f (now image) name None ≡ xattrs
      two_now = two_same f (now image) (shown p) (blank_reading p image) name None

      free : now image head ≡ None
      free = rw none refl

      abbrev copied_of : Volume
      copied_of = its known unmarked image of old

      is_there : now image of ≡ Some copied_of
      is_there = is_its known unmarked image of old there

    -- what is known of a command that makes the copy, whatever an image holds
    record IsCopied (command : Command) : Type 0 where
      passed : (image : Image) → refusal f (now image) command ≡ None
      lives : (image : Image) → live_of (copied_by command image) ≡ with_option p.live head (Some xattrs)
      writable : (image : Image) → AllWritable (copied_by command image)

    -- it is so where the step leaves the attributes of the others as they are
    module _ (command : Command) (asked : refusal f (shown p) command ≡ None)
        (names : named_head f (shown p) command ≡ Some of)
        (at_head : (image : Image) → named_head f (now image) command ≡ Some of
        → live_of (copied_by command image) head ≡ Some (two_xattrs f (now image) name None))
        (others : (image : Image) → named_head f (now image) command ≡ Some of → (h : ℕ) → h ≢ head
        → live_of (copied_by command image) h ≡ live_of (now image) h) where
      found_now : (image : Image) → named_head f (now image) command ≡ Some of
      found_now image = same_named f (now image) (shown p) (blank_reading p image) command ∙ names

      here : (image : Image) → live_of (copied_by command image) head ≡ Some xattrs
      here image = at_head image (found_now image) ∙ ap (λ (xs : Xattrs). Some xs) (two_now image)

      copied : IsCopied command
      copied = record {
        passed = λ image. same_refusal f (now image) (shown p) (blank_reading p image) command ∙ asked;
        lives = λ image. lives_changed (reading p image) well.live well.no_live (copied_by command image) head
            (Some xattrs) (here image) (others image (found_now image));
        writable = λ image. writable_changed (reading p image) well.live well.no_live (copied_by command image) head
            (Some xattrs) (here image) (others image (found_now image))
            (λ xs is. let one : xattrs ≡ xs = cc is in subst CanBeWritten one can);
      }

    -- a clone
    pub clone_family : refusal f (shown p) (c.Clone volume name) ≡ None
        → IsFamilyJob p (c.Clone volume name) (clone_job of old head xattrs) (made_commit head xattrs)
    clone_family asked = record {
      shows = clones.clone_shows f p.base p.live p.device.reads volume name of head old xattrs (at_rest known unmarked)
          clear (record { found = found; there = there; passed = asked }) refl;
      stored = (jobs_stored p.super).clone of head old xattrs (was_stored known unmarked of old there) low can
          (few_heads known unmarked);
      metadata = tt;
      done = tt;
      allowed = λ image. (cloned.passed image, (low, free image));
      may_fail = λ image. tt;
      lives = cloned.lives;
      writable = cloned.writable;
      there = (ap is_some (given_here p.base head (new_clone of old head xattrs) head refl), tt);
      gone = λ h out. inl out;
    }
      where
        cloned : IsCopied (c.Clone volume name)
        cloned = copied (c.Clone volume name) asked found
            (λ image is. ap (λ o. option_map (λ (x : Volume). x.live) o)
            (clones.stepped_head f (now image) volume name of head (copied_of image) is (is_there image)))
            (λ image is h ne. ap (λ o. option_map (λ (x : Volume). x.live) o)
            (clones.stepped_else f (now image) volume name of head (copied_of image) is (is_there image) h ne))

    -- a snapshot: the volume is renewed too
    pub snapshot_family : refusal f (shown p) (c.Snapshot volume name) ≡ None
        → IsFamilyJob p (c.Snapshot volume name) (snapshot_job of old head xattrs)
        (record (made_commit head xattrs) { renews = of ∷ head ∷ [] })
    snapshot_family asked = record {
      shows = snapshot_shows f p.base p.live p.device.reads volume name of head old xattrs (at_rest known unmarked)
          clear (record { found = found; there = there; passed = asked }) refl;
      stored = (jobs_stored p.super).snapshot of head old xattrs (was_stored known unmarked of old there) low can
          (few_heads known unmarked);
      metadata = tt;
      done = tt;
      allowed = λ image. (taken.passed image, (low, free image));
      may_fail = λ image. tt;
      lives = taken.lives;
      writable = taken.writable;
      there = (there_of, (there_head, tt));
      gone = λ h out.
          let first = not_first h of (head ∷ []) out in
          let second = not_first h head [] first.1 in
          inl (not_replaced h (λ e. second.0 (sym e)) (λ e. first.0 (sym e)));
    }
      where
        apart : of ≢ head
        apart e = let bad : None ≡ Some old = sym none ∙ ap p.base (sym e) ∙ there in absurd (cc bad)

        there_of : is_some (part_of (snapshot_job of old head xattrs) p.base 3 of) ≡ true
        there_of = rw (eq-eqb of of refl) refl

        there_head : is_some (part_of (snapshot_job of old head xattrs) p.base 3 head) ≡ true
        there_head = rw (ne_eqb head of (λ e. apart (sym e)), eq-eqb head head refl) refl

        not_replaced : (h : ℕ) → head ≢ h → of ≢ h → replaces (snapshot_job of old head xattrs) h ≡ false
        not_replaced h ne other = rw (ne_eqb head h ne, ne_eqb of h other) refl

        -- the volume's attributes are as they were too
        others : (image : Image) → head_of f (now image) volume ≡ Some of → (h : ℕ) → h ≢ head
            → live_of (copied_by (c.Snapshot volume name) image) h ≡ live_of (now image) h
        others image is h ne = elim (cases_eq h of) [
          | inl e ↦
              ap (live_of (copied_by (c.Snapshot volume name) image)) e
              ∙ ap (λ o. option_map (λ (y : Volume). y.live) o)
              (snapshots.stepped_of f (now image) volume name of head (copied_of image) is (is_there image) apart)
              ∙ sym (is_live (now image) of (copied_of image) (is_there image)) ∙ ap (live_of (now image)) (sym e)
          | inr other ↦
              ap (λ o. option_map (λ (y : Volume). y.live) o)
              (snapshots.stepped_else f (now image) volume name of head (copied_of image) is (is_there image) h ne
              other)
        ]

        taken : IsCopied (c.Snapshot volume name)
        taken = copied (c.Snapshot volume name) asked found
            (λ image is. ap (λ o. option_map (λ (x : Volume). x.live) o)
            (snapshots.stepped_head f (now image) volume name of head (copied_of image) is (is_there image)))
            others
