-- An inflate or a decouple asks for the next slot that it has to fill, or, where it has none, for its last job.
use Rattle.std.proofs.Common.{◌≡◌, ℕ, [], ◌∷◌, Some, None, refl, sym, ap, ◌∙◌, subst}
use Rattle.std.specs.Ordering.{nat_cmp}
use Rattle.std.specs.FinMap as map
use Rattle.volume_model.specs.Steps.{named_head}
use Rattle.volume_model.specs.Volumes.{Fixed, head_of, Volumes}
use Rattle.volume_model.specs.declared.command.VolumeRef.{VolumeRef}
use Rattle.volume_model.specs.declared.reply.Reply.TheVariants as r
use Rattle.blob_meta.specs.declared.job.Job.{Job}
use Rattle.blob_meta.specs.declared.meta.Meta.{Meta}
use Rattle.blob_meta.specs.Find.{IsLeast}
use Rattle.blob_meta.specs.Resolving.{resolved}
use Rattle.blob_meta.specs.ShownBy.{IsFirstRefusal, IsHeadMeant, ShowsMetas}
use Rattle.inflate_delete.specs.FillJobs.{fill_job, filled_blob, IsFillJob}
use Rattle.inflate_delete.specs.Fills.{command_of, is_to_fill, IsFilled, parent_blob}
use Rattle.inflate_delete.specs.declared.filling.FillKind.{FillKind}
use Rattle.inflate_delete.specs.declared.filling.FillKind.TheVariants.{Inflate, Decouple}
use Rattle.store_model.specs.Asking.{fills}
use Rattle.store_model.specs.Maps.{Metas}
use Rattle.store_model.specs.Shown.{fixed_of}
use Rattle.store_model.specs.StoreState.{shown, StoreState}
use Rattle.channel_turns.specs.FillTurns.{IsNextToFill}
use Rattle.job_begins.specs.Begins.{IsJobOf}
use Rattle.store_core.proofs.NextHead.{next_there}

-- the volume that the command names
named_fill : (f : Fixed) (v : Volumes) (kind : FillKind) (volume : VolumeRef)
    → named_head f v (command_of kind volume) ≡ head_of f v volume
named_fill f v Inflate volume = refl
named_fill f v Decouple volume = refl

module _ (p : StoreState) (metas : map.FinMap nat_cmp Meta)
    (shows : ShowsMetas (fixed_of p.super) p.super metas (shown p)) (kind : FillKind) (volume : VolumeRef) (head : ℕ)
    (meant : IsHeadMeant metas p.super volume (Some head))
    (unrefused : IsFirstRefusal metas p.super (command_of kind volume) None) where
  -- the least slot that is to be filled
  pub asks_fill : resolved p.base ≡ map.get metas → (slot : ℕ) → IsLeast (is_to_fill (map.get metas) head kind) slot
      → IsNextToFill p (command_of kind volume) slot
  asks_fill resolves slot least = record {
    asks = record { kind = kind; volume = volume; is = refl };
    asked = unrefused (fixed_of p.super) (shown p) shows;
    head = head;
    found = meant (fixed_of p.super) (shown p) shows;
    least = subst (λ (m : Metas). IsLeast (is_to_fill m head kind) slot) (sym resolves) least;
  }

  -- its last job, which renews the blob
  pub asks_last : p.base ≡ map.get metas → (job : Job) → IsFilled (map.get metas) head kind
      → IsFillJob metas head kind job → IsJobOf p (command_of kind volume) job
  asks_last base job filled is =
      let there : p.base head ≡ Some is.old = ap (λ (m : Metas). m head) base ∙ is.there in
      let job_is : job ≡ fill_job kind head is.old (parent_blob p.base is.old) =
      is.job_is ∙ ap (λ (m : Metas). fill_job kind head is.old (parent_blob m is.old)) (sym base) in
      record {
        commit = record { reply = r.Ok; live = None; renews = head ∷ [] };
        asked =
            fills
            (record {
              kind = kind;
              volume = volume;
              command_is = refl;
              asked = unrefused (fixed_of p.super) (shown p) shows;
              head = head;
              found = named_fill (fixed_of p.super) (shown p) kind volume
                  ∙ meant (fixed_of p.super) (shown p) shows;
              old = is.old;
              there = there;
              filled = subst (λ (m : Metas). IsFilled m head kind) (sym base) filled;
              is = job_is;
              commit_is = refl;
            });
        next = next_there p job.list
            (record { head = head; new = Some (filled_blob kind is.old (parent_blob p.base is.old)) }) []
            (ap (λ (j : Job). j.list) job_is) is.old there;
      }
