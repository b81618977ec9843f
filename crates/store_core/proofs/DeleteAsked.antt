-- A delete asks for the blob that it means to go, whose one clone, if it has one, takes over from it.
use Rattle.std.proofs.Common.{◌≡◌, ℕ, ◌<◌, ◌≤◌, ◌^◌, List, [], ◌∷◌, Option, Some, None, refl, sym, ap, ◌∙◌, arith}
use Rattle.std.proofs.Common.{drop, subst}
use Rattle.std.specs.Prelude.{IsSome}
use Rattle.std.specs.Ordering.{nat_cmp}
use Rattle.std.specs.FinMap as map
use Rattle.super_block.specs.declared.page.Super.{Super}
use Rattle.super_block.specs.Placed.{IsPlaced}
use Rattle.volume_model.specs.Volumes.{Volumes}
use Rattle.volume_model.specs.declared.command.Command.{Command}
use Rattle.volume_model.specs.declared.command.VolumeRef.{VolumeRef}
use Rattle.volume_model.specs.declared.command.Command.TheVariants as c
use Rattle.blob_meta.specs.declared.job.Job.{Job}
use Rattle.blob_meta.specs.declared.job.Replacement.{Replacement}
use Rattle.blob_meta.specs.declared.meta.Meta.{Meta}
use Rattle.blob_meta.specs.ShownBy.{IsFirstRefusal, IsHeadMeant, ShowsMetas}
use Rattle.inflate_delete.specs.Clones.{clones_below, AreClones}
use Rattle.inflate_delete.specs.DeleteJobs.{delete_job, going_blob}
use Rattle.inflate_delete.specs.DeletePlans.{IsDeleteJob, IsJobBeside}
use Rattle.store_model.specs.Asking.{deletes}
use Rattle.store_model.specs.Maps.{Metas}
use Rattle.store_model.specs.Shown.{fixed_of}
use Rattle.store_model.specs.StoreState.{StoreState, shown}
use Rattle.store_model.specs.RunInvariant.{RunInvariant}
use Rattle.store_model.proofs.ChangedLive.{deleted_commit}
use Rattle.job_begins.specs.Begins.{IsFreshHead, IsJobOf}
use Rattle.store_core.proofs.NextHead.{next_there}

module _ (s : Super) (placed : IsPlaced s) (first : Volumes) (script : ℕ → List Command) (p : StoreState)
    (facts : RunInvariant s first script p) where
  -- all heads lie in the region, so the clones of a blob are those below it
  clones_here : (metas : map.FinMap nat_cmp Meta) → p.base ≡ map.get metas → (of : ℕ) (clones : List ℕ)
      → AreClones metas of clones → clones_below p.super.md_len p.base of ≡ clones
  clones_here metas base of clones are =
      ap (λ (m : Metas). clones_below p.super.md_len m of) base ∙ are p.super.md_len few
      (λ h is. low h (map.get metas h) refl is)
    where
      few : p.super.md_len ≤ 2 ^ 32
      few = subst (λ (x : Super). x.md_len ≤ 2 ^ 32) (sym facts.super)
          (let most = placed.few_md_pages in omega (arith, most))

      low : (h : ℕ) (o : Option Meta) → map.get metas h ≡ o → IsSome (map.get metas h) → h < p.super.md_len
      low h None none some = absurd (let bad = subst (λ (o : Option Meta). IsSome o) none some in cc bad)
      low h (Some m) there some = subst (λ (x : Super). h < x.md_len) (sym facts.super)
          (facts.stored h m (ap (λ (b : Metas). b h) base ∙ there)).low

  -- a delete that nothing refuses asks for the blob that is meant to be erased, whose one clone takes over from it
  pub asks_delete : (metas : map.FinMap nat_cmp Meta) → ShowsMetas (fixed_of p.super) p.super metas (shown p)
      → p.base ≡ map.get metas → (volume : VolumeRef) (of : ℕ) (job : Job)
      → IsHeadMeant metas p.super volume (Some of) → IsFirstRefusal metas p.super (c.Delete volume) None
      → IsDeleteJob metas of job → IsJobOf p (c.Delete volume) job
  asks_delete metas shows base volume of job meant unrefused is =
      let there : p.base of ≡ Some is.old = ap (λ (m : Metas). m of) base ∙ is.there in
      let beside : IsJobBeside p.base of is.old is.clones job =
      subst (λ (m : Metas). IsJobBeside m of is.old is.clones job) (sym base) is.job_is in
      record {
        commit = deleted_commit of is.clones;
        asked =
            deletes
            (record {
              volume = volume;
              command_is = refl;
              asked = unrefused (fixed_of p.super) (shown p) shows;
              of = of;
              found = meant (fixed_of p.super) (shown p) shows;
              old = is.old;
              there = there;
              clones = is.clones;
              clones_are = clones_here metas base of is.clones is.clones_are;
              is = beside;
              commit_is = refl;
            });
        next = first_there of is.old is.clones there beside;
      }
    where
      first_there : (of : ℕ) (old : Meta) (clones : List ℕ) → p.base of ≡ Some old
          → IsJobBeside p.base of old clones job → (x : Replacement) (xs : List Replacement) → job.list ≡ x ∷ xs
          → p.base x.head ≡ None → IsFreshHead p.pages x.head
      first_there of old [] there is =
          next_there p job.list (record { head = of; new = None }) [] (ap (λ (j : Job). j.list) is) old there
      first_there of old (clone ∷ []) there is =
          let made = delete_job of old clone is.0 in
          next_there p job.list (record { head = of; new = Some (going_blob old clone) }) (drop 1 made.list)
          (ap (λ (j : Job). j.list) is.2) old there
      first_there of old (clone ∷ other ∷ rest) there is = absurd is
