-- A job on volumes, their parents and clones: from what is known of each part of its list to the step of its commit.
use Rattle.std.proofs.Common.{◌≡◌, ◌⊎◌, ℕ, ◌+◌, ◌^◌, ◌<◌, ◌≤◌, true, false, length}
use Rattle.std.proofs.Common.{None}
use Rattle.std.proofs.Common.{sym, ap, ◌∙◌, subst, inl, inr, arith}
use Rattle.std.specs.Prelude.{IsSome}
use Rattle.std.specs.List.{AllByRecursion}
use Rattle.page_disk.specs.Disk.{Image}
use Rattle.super_block.specs.declared.page.Super.{Super}
use Rattle.volume_model.specs.Volumes.{Fixed, Volumes}
use Rattle.volume_model.specs.Steps.{Allowed, change}
use Rattle.volume_model.specs.declared.command.Command.{Command}
use Rattle.volume_model.specs.declared.reply.Reply.TheVariants as r_
use Rattle.blob_meta.specs.declared.job.Job.{Job as Changes}
use Rattle.blob_meta.specs.Repairs.{HasNoMarks}
use Rattle.blob_meta.specs.Resolving.{resolved}
use Rattle.md_chain.specs.Chain.{is_among}
use Rattle.shown_volumes.specs.EmptySlots.{Anything}
use Rattle.shown_volumes.specs.ShowsStep.{IsAtRest, part_of, replaces, ShowsStep}
use Rattle.shown_volumes.specs.StoredLaws.{AreStoredWell}
use Rattle.shown_volumes.proofs.PartsStored.{parts_stored, resolved_steady, steady_rest, steady_stored}
use Rattle.store_model.specs.Copying.{LeavesSlotsEmpty}
use Rattle.store_model.specs.Jobs.{IsStep, shown_of}
use Rattle.store_model.specs.Maps.{Metas}
use Rattle.store_model.specs.Phases.{Committing, replaced, Replacing, with_live}
use Rattle.store_model.specs.Recovers.{IsChangeDone}
use Rattle.store_model.specs.Rows.{IsForMetadata}
use Rattle.store_model.specs.Shown.{fixed_of}
use Rattle.store_model.specs.StoreState.{live_of, shown, StoreState}
use Rattle.store_model.proofs.Known.{Known}
use Rattle.store_model.proofs.ListLaid.{can_be_made, CanBeMade}
use Rattle.store_model.proofs.Meanwhile.{reading}
use Rattle.store_model.proofs.OneReplacement.{base_lawful, base_steady, some_pages}
use Rattle.store_model.proofs.Writable.{AllWritable}

-- What a job on a family of volumes is known for, whatever an image holds: what its parts show, that they can be
-- stored, and what the command's step makes of attributes. A blob that it replaces, and that is there then, is renewed.
pub record IsFamilyJob (p : StoreState) (command : Command) (job : Changes) (commit : Committing) : Type 0 where
  pub shows : ShowsStep (fixed_of p.super) p.base p.live command commit.reply job
  pub stored : AreStoredWell p.super job
  pub metadata : IsForMetadata command
  pub done : IsChangeDone commit.reply
  pub allowed : (image : Image) → Allowed (fixed_of p.super) (shown (reading p image)) command commit.reply
  pub may_fail : (image : Image) → Allowed (fixed_of p.super) (shown (reading p image)) command r_.Fault
  pub lives : (image : Image)
      → live_of (change (fixed_of p.super) (shown (reading p image)) command commit.reply)
      ≡ with_live p.live commit.live
  pub writable : (image : Image)
      → AllWritable (change (fixed_of p.super) (shown (reading p image)) command commit.reply)
  pub there : AllByRecursion (λ h. IsSome (part_of job p.base job.commit h)) commit.renews
  pub gone : (h : ℕ) → is_among h commit.renews ≡ false
      → (replaces job h ≡ false) ⊎ (resolved (part_of job p.base job.commit) h ≡ None)

-- ---- where no repair is left

module _ (known : Known) (unmarked : HasNoMarks known.p.base) where
  open known use {placed, first, p, facts}

  -- 32 bits count the metadata pages
  pub few_heads : p.super.md_len ≤ 2 ^ 32
  few_heads = subst (λ (s : Super). s.md_len ≤ 2 ^ 32) (sym facts.super)
      (let few = placed.few_md_pages in omega (arith, few))

  -- a job may begin on the metadata
  pub at_rest : IsAtRest (fixed_of p.super) p.base
  at_rest = steady_rest p.super p.base (base_steady known unmarked) (base_lawful known unmarked) (some_pages known)
      few_heads

  module _ (command : Command) (job : Changes) (commit : Committing) (family : IsFamilyJob p command job commit) where
    abbrev f : Fixed
    f = fixed_of p.super

    abbrev part : ℕ → Metas
    part = part_of job p.base

    -- its replacements can be made one after another
    pub family_made : CanBeMade p.super p.base job.list
    family_made = can_be_made p.super p.base job.list family.stored (λ count le. record {
      named = λ h m is. (resolved_steady p.super (part count)
          (parts_stored p.super p.base job (steady_stored p.super p.base (base_steady known unmarked)) family.stored
          count) h m is).named;
      few = family.shows.few count le;
      lawful = family.shows.lawful count le;
    })

    -- ---- the commit, behind so many others

    module _ (k : ℕ) (early : k < job.commit) (at : job.commit ≡ k + 1) (within : job.commit ≤ length job.list)
        (r : Replacing) (next : replaced (part k) r ≡ part job.commit)
        (makes : r.makes ≡ true → is_among r.head commit.renews ≡ true) where
      before : (image : Image) → shown_of p.super (part k) p.live image ≡ shown (reading p image)
      before image = family.shows.before k early image

      leaves : (h : ℕ) → is_among h commit.renews ≡ false
          → LeavesSlotsEmpty p.super (resolved p.base) (resolved (part job.commit)) Anything h
      leaves h out = elim (family.gone h out) [
        | inl apart ↦ family.shows.leaves job.commit within h apart
        | inr none ↦ λ page m is. absurd (let bad = sym none ∙ is in cc bad)
      ]

      pub family_step : (Holds : Image → Type 0) → IsStep Holds p.super (part k) r p.live command commit
      family_step Holds = record {
        metadata = family.metadata;
        done = family.done;
        allowed = λ image. subst (λ (v : Volumes). Allowed f v command commit.reply) (sym (before image))
            (family.allowed image);
        may_fail = λ image. subst (λ (v : Volumes). Allowed f v command r_.Fault) (sym (before image))
            (family.may_fail image);
        shows = λ image _. subst (λ (v : Volumes). shown_of p.super (replaced (part k) r)
            (live_of (change f v command commit.reply)) image ≡ change f v command commit.reply) (sym (before image))
            (ap (λ (m : Metas). shown_of p.super m (live_of (change f (shown (reading p image)) command commit.reply))
            image) next ∙ family.shows.since job.commit (omega arith) within image);
        lives = λ image. subst
            (λ (v : Volumes). live_of (change f v command commit.reply) ≡ with_live p.live commit.live)
            (sym (before image)) (family.lives image);
        writable = λ image h v is. family.writable image h v
            (ap (λ (u : Volumes). change f u command commit.reply h) (sym (before image)) ∙ is);
        renews = subst (λ (m : Metas). AllByRecursion (λ h. IsSome (m h)) commit.renews) (sym next) family.there;
        numbers = makes;
        leaves = λ h out. subst (λ (m : Metas). LeavesSlotsEmpty p.super (resolved (part k)) (resolved m) Anything h)
            (sym next) (subst (λ (m : Metas). LeavesSlotsEmpty p.super m (resolved (part job.commit)) Anything h)
            (sym (family.shows.undone k early)) (leaves h out));
      }
