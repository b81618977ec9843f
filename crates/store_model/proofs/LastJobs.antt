-- The last job of a fill is a job on a family of volumes.
use Rattle.std.proofs.Common.{◌≡◌, ℕ, Bool, true, false, [], ◌∷◌, Option, None, Some, refl, sym, ap, ◌∙◌, subst, inl}
use Rattle.std.specs.Prelude.{◌==◌, if◌then◌else◌}
use Rattle.std.specs.Option.{option_map}
use Rattle.std.proofs.lemmas.Bool.{eq-eqb, ne_eqb}
use Rattle.std.proofs.Math.Path.{fun_ext}
use Rattle.page_disk.specs.Disk.{Image}
use Rattle.volume_model.specs.Volumes.{Fixed, Volume, Volumes}
use Rattle.volume_model.specs.Refusals.{refusal}
use Rattle.volume_model.specs.Steps.{Allowed, change, Done, edited_at, MayFail, named_head}
use Rattle.volume_model.specs.declared.command.Command.{Command}
use Rattle.volume_model.specs.declared.command.VolumeRef.{VolumeRef}
use Rattle.volume_model.specs.declared.reply.Reply.TheVariants as r_
use Rattle.volume_model.proofs.Blank.{same_refusal}
use Rattle.blob_meta.specs.declared.job.Job.{Job as Changes}
use Rattle.blob_meta.specs.declared.meta.Meta.{Meta}
use Rattle.blob_meta.specs.Repairs.{HasNoMarks}
use Rattle.inflate_delete.specs.FillJobs.{fill_job}
use Rattle.inflate_delete.specs.Fills.{command_of, IsFilled, parent_blob}
use Rattle.inflate_delete.specs.declared.filling.FillKind.{FillKind}
use Rattle.inflate_delete.specs.declared.filling.FillKind.TheVariants.{Inflate, Decouple}
use Rattle.shown_volumes.proofs.Fills.{fill_shows}
use Rattle.shown_volumes.proofs.StoredJobs.{jobs_stored}
use Rattle.store_model.specs.Asking.{IsLastJob}
use Rattle.store_model.specs.Phases.{Committing}
use Rattle.store_model.specs.Rows.{IsForMetadata}
use Rattle.store_model.specs.RunInvariant.{RunsWell}
use Rattle.store_model.specs.Shown.{fixed_of}
use Rattle.store_model.specs.StoreState.{live_of, shown, StoreState}
use Rattle.store_model.proofs.ChangedLive.{is_live, lives_mapped, writable_as_shown}
use Rattle.store_model.proofs.FamilyStep.{at_rest, IsFamilyJob}
use Rattle.store_model.proofs.Known.{Known}
use Rattle.store_model.proofs.Meanwhile.{blank_reading, reading}
use Rattle.store_model.proofs.Moved.{live_shown}
use Rattle.store_model.proofs.Sets.{not_first}
use Rattle.store_model.proofs.VolumeShown.{was_stored}
use Rattle.store_model.proofs.Writable.{AllWritable}

-- what its commit makes
abbrev last_commit : ℕ → Committing
last_commit head = record { reply = r_.Ok; live = None; renews = head ∷ [] }

-- ---- its command

metadata : (kind : FillKind) (volume : VolumeRef) → IsForMetadata (command_of kind volume)
metadata Inflate volume = tt
metadata Decouple volume = tt

module _ (f : Fixed) (v : Volumes) where
  -- it is done, and may fail
  done : (kind : FillKind) (volume : VolumeRef) → Done f v (command_of kind volume) r_.Ok
  done Inflate volume = tt
  done Decouple volume = tt

  may_fail : (kind : FillKind) (volume : VolumeRef) → MayFail f v (command_of kind volume)
  may_fail Inflate volume = tt
  may_fail Decouple volume = tt

  -- an edit that leaves attributes as they are
  lives_edited : (o : Option ℕ) (edit : Volume → Volume) → ((x : Volume) → (edit x).live ≡ x.live) → (h : ℕ)
      → live_of (edited_at f v o edit) h ≡ live_of v h
  lives_edited None edit same h = refl
  lives_edited (Some head) edit same h = by (h == head)
    where
      by : (b : Bool) → option_map (λ (x : Volume). x.live) (if b then option_map edit (v h) else v h) ≡ live_of v h
      by true = lives_mapped edit same (v h)
      by false = refl

  lives_still : (kind : FillKind) (volume : VolumeRef) (h : ℕ)
      → live_of (change f v (command_of kind volume) r_.Ok) h ≡ live_of v h
  lives_still Inflate volume = lives_edited _ _ (λ x. refl)
  lives_still Decouple volume = lives_edited _ _ (λ x. refl)

module _ (known : Known) (unmarked : HasNoMarks known.p.base) (runs : known.p.stopped ≡ None) where
  open known use {first, p, facts}

  well : RunsWell first p
  well = facts.well runs

  abbrev f : Fixed
  f = fixed_of p.super

  module _ (kind : FillKind) (volume : VolumeRef) (head : ℕ) (old : Meta)
      (asked : refusal f (shown p) (command_of kind volume) ≡ None)
      (found : named_head f (shown p) (command_of kind volume) ≡ Some head) (there : p.base head ≡ Some old)
      (filled : IsFilled p.base head kind) where
    module _ (image : Image) where
      abbrev now : StoreState
      now = reading p image

      abbrev w : Volumes
      w = change f (shown now) (command_of kind volume) r_.Ok

      lives : (h : ℕ) → live_of w h ≡ live_of (shown now) h
      lives = lives_still f (shown now) kind volume

      writable : AllWritable w
      writable h v is = writable_as_shown now well.live h v.live (sym (lives h) ∙ is_live w h v is)

      allowed : Allowed f (shown now) (command_of kind volume) r_.Ok
      allowed = (
        same_refusal f (shown now) (shown p) (blank_reading p image) (command_of kind volume) ∙ asked,
        done f (shown now) kind volume,
      )

    abbrev job : Changes
    job = fill_job kind head old (parent_blob p.base old)

    family : IsFamilyJob p (command_of kind volume) job (last_commit head)
    family = record {
      shows = fill_shows f p.base p.live p.device.reads volume head old kind (at_rest known unmarked) filled
          (record { found = found; there = there; passed = asked });
      stored = (jobs_stored p.super).fill kind p.base head old there (was_stored known unmarked head old there)
          (λ parent m child is. was_stored known unmarked parent m is) filled;
      metadata = metadata kind volume;
      done = tt;
      allowed = allowed;
      may_fail = λ image. may_fail f (shown (reading p image)) kind volume;
      lives = λ image. fun_ext (λ h. lives image h ∙ live_shown (reading p image) well.live well.no_live h);
      writable = writable;
      there = (rw (eq-eqb head head refl) refl, tt);
      gone = λ h out. inl (rw (ne_eqb head h (λ e. (not_first h head [] out).0 (sym e))) refl);
    }

  -- what an inflate or a decouple asks for once no slot is left to fill
  pub last_family : (command : Command) (changes : Changes) (commit : Committing)
      → (asks : IsLastJob p command changes commit)
      → IsFamilyJob p command (fill_job asks.kind asks.head asks.old (parent_blob p.base asks.old)) commit
  last_family command changes commit asks =
      let job : Changes = fill_job asks.kind asks.head asks.old (parent_blob p.base asks.old) in
      subst (λ (k : Command). IsFamilyJob p k job commit) (sym asks.command_is)
      (subst (λ (m : Committing). IsFamilyJob p (command_of asks.kind asks.volume) job m) (sym asks.commit_is)
      (family asks.kind asks.volume asks.head asks.old
      (ap (refusal f (shown p)) (sym asks.command_is) ∙ asks.asked)
      (ap (named_head f (shown p)) (sym asks.command_is) ∙ asks.found) asks.there asks.filled))
