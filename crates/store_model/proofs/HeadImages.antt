-- The images of a turn that replaces a head: the old metadata or the new, and behind it the new.
use Rattle.std.proofs.Common.{◌≡◌, List, [], ℕ, None, Option, refl, subst, sym, ap, ◌∙◌}
use Rattle.std.specs.Prelude.{true}
use Rattle.page_disk.specs.Disk.{Image}
use Rattle.page_disk.specs.declared.disk.PageDisk.{Ghosts}
use Rattle.store_model.specs.Agreeing.{Stands}
use Rattle.store_model.specs.Maps.{Chains, Metas}
use Rattle.store_model.specs.Phases.{Committing, page_in, rechained, replaced, Replaces, Replacing}
use Rattle.store_model.specs.StoreState.{going_on, JobState, StoreState}
use Rattle.store_model.specs.Surviving.{HoldsMetadata}
use Rattle.store_model.specs.Touches.{DoesTouch, left_by, replaces}
use Rattle.store_model.specs.Turning.{page_of_place, Runs, WritesOnePage}
use Rattle.store_model.proofs.Going.{holds_loaded, stands_whole}
use Rattle.store_model.proofs.Heads.{holds_replaced, image, replaced_way}
use Rattle.store_model.proofs.LeftToDo.{goes_on_as, no_place}
use Rattle.store_model.proofs.Over.{ImageLaw, Over, Reaches}
use Rattle.store_model.proofs.Shapes.{now_is}
use Rattle.store_model.proofs.StandsKept.{stands_now}

module _ {D : Type 0} (d : Ghosts D) (x : Over d) (replacing : Replacing) (commit : Option Committing)
    (running : Runs x.p (Replaces replacing commit)) where
  open x use {told, s, first, script, p, q, from, to, to_is, to_tells, after}

  abbrev page : List ℕ
  page = page_in replacing.planned replacing.head

  abbrev new : Image
  new = image d x replacing commit running

  -- the job goes on, and has written no page that isn't in a chain
  pub head_images : (next : StoreState) → q ≡ next → next.stopped ≡ p.stopped
      → (goes_on : JobState) → next.job ≡ going_on goes_on [] running.rest
      → next.base ≡ replaced p.base replacing → next.chains ≡ rechained p.chains replacing
      → WritesOnePage d.tells p.device (page_of_place p replacing.head) page 3 next.device → Reaches d x q.log
      → DoesTouch d from to (replaces (page_of_place p replacing.head) page true)
      → ImageLaw d x (left_by (replaces (page_of_place p replacing.head) page true) (d.images from) (d.now from))
  head_images next is stopped goes_on job base chains moves reaches does =
      let says_new = holds_replaced d x replacing commit running in
      let runs_on : q.stopped ≡ None = ap (λ (v : StoreState). v.stopped) is ∙ stopped ∙ running.runs in
      let now_new : d.now to ≡ new =
      now_is d x replacing.head page 3 (subst (λ (v : StoreState). WritesOnePage d.tells p.device
      (page_of_place p replacing.head) page 3 v.device) (sym is) moves) in
      let holds_new : HoldsMetadata s q.base q.chains new =
      subst (λ (m : Metas). HoldsMetadata s m q.chains new) (sym (ap (λ (v : StoreState). v.base) is ∙ base))
      (subst (λ (h : Chains). HoldsMetadata s (replaced p.base replacing) h new)
      (sym (ap (λ (v : StoreState). v.chains) is ∙ chains)) says_new) in
      let stands_new : Stands s first q.base q.chains q.log (d.now to) new =
      subst (λ (n : Image). Stands s first q.base q.chains q.log n new) (sym now_new)
      (stands_now s first q.base q.chains q.log new holds_new.store holds_new.says) in
      record {
        way = replaced_way d x replacing commit running says_new (holds_loaded s first script q after new holds_new)
            q.log (stands_whole d told s first script q to to_is to_tells after runs_on new stands_new) reaches;
        stands = λ _ c held. subst (Stands s first q.base q.chains q.log (d.now to))
            (sym now_new ∙ sym ((does.durable refl told c).0 held)) stands_new;
        written = λ _ after_it there place among.
            let g = goes_on_as goes_on [] running.rest after_it
            (sym (ap (λ (v : StoreState). v.job) is ∙ job) ∙ there) in
            absurd (no_place after_it.written place among (ap (λ (i : JobState). i.written) g.is));
      }
