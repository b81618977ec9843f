-- What a turn of a job makes of the store before its replacement: the next fresh page of the plan is written.
use Rattle.std.proofs.Common.{◌≡◌, ℕ, suc, ◌+◌, ◌<◌, ◌≤◌, List, [], ◌∷◌, length, get_or, Option, Some, refl, sym, ◌∙◌}
use Rattle.std.proofs.Common.{ap, subst, subst₂, arith, add-one, drop}
use Rattle.std.specs.Prelude.{slice_get}
use Rattle.page_disk.specs.Disk.{Written}
use Rattle.page_disk.specs.Moments.{CallsLeaveOnly}
use Rattle.page_disk.specs.declared.disk.PageDisk.{Ghosts}
use Rattle.page_disk.specs.declared.disk.WriteKind.TheVariants.{Plain}
use Rattle.md_chain.specs.declared.plan.PlannedPage.{PlannedPage}
use Rattle.store_model.specs.StoreState.{JobState, StoreState, planned_at}
use Rattle.store_model.specs.Cases.{FailsToReplace, WritesOnePage}
use Rattle.store_model.specs.Cases as kind
use Rattle.store_model.specs.Phases.{Phase, Writes, writing}
use Rattle.running_store.specs.StoreView.{StoreView, device_of, state_of}
use Rattle.running_store.specs.Jobs.{waits_for_job, writing_for}
use Rattle.running_store.specs.declared.replacements.Planned.{Planned}
use Rattle.running_store.specs.declared.job.Serves.{Serves}
use Rattle.running_store.proofs.PlainFacts.{got}
use Rattle.metadata_turns.specs.JobTurns.{with_job, IsAtWork, TurnsJob}
use Rattle.metadata_turns.specs.Telling.{HasFailed}
use Rattle.metadata_turns.proofs.AtWork.{behind, drop_one, next_low, next_page, next_place, pages_planned, take_one}
use Rattle.metadata_turns.proofs.JobFailed.{failed_putting}

-- the next page of the plan
abbrev pub next : List PlannedPage → ℕ → PlannedPage
next plan written = get_or plan (written + 1) (record { place = 0; page = [] })

module _ {D : Type 0} (d : Ghosts D) (p : StoreView D) (serves : Serves) (planned : Planned) (old : List ℕ)
    (written : ℕ) (more : List Phase) (w : IsAtWork d p (writing_for serves planned old written more)) where
  abbrev jf : JobState
  jf = writing_for serves planned old written more

  abbrev fresh : List ℕ
  fresh = drop 1 planned.chain

  abbrev sf : StoreState
  sf = state_of d (with_job p jf)

  pub planned_some : 0 < length planned.pages
  planned_some =
      let long = pages_planned sf w.running w.not_stopped serves planned old written more refl in omega (arith, long)

  -- its page of the device
  module _ {seen : List PlannedPage} (same : seen ≡ planned.pages) (some : written + 1 < length planned.pages) (at : ℕ)
      (at_seen : at ≡ p.super.md_start + (next seen written).place) where
    abbrev x : PlannedPage
    x = next planned.pages written

    next_is : slice_get planned.pages (suc written) ≡ Some x
    next_is = sym (ap (λ n. slice_get planned.pages n) (add-one written)) ∙ got planned.pages (written + 1) _ some

    at_is : at ≡ p.super.md_start + x.place
    at_is = at_seen ∙ ap (λ (l : List PlannedPage). p.super.md_start + (next l written).place) same

    -- it lies there
    pub fresh_inside : (bound : ℕ) → p.super.md_start + p.super.md_len ≤ bound → at < bound
    fresh_inside bound inside =
        let is = at_is in
        let below = next_low sf w.running w.not_stopped serves planned old written more refl written x next_is in
        omega (arith, is, below, inside)

    place : slice_get fresh written ≡ Some x.place
    place = next_place sf w.running w.not_stopped serves planned old written more refl written x next_is

    abbrev others : List Phase
    others = writing (drop (suc written) fresh) (behind sf w.running w.not_stopped serves planned old written more refl)

    todo_is : jf.todo ≡ Writes x.place ∷ others
    todo_is = ap (λ l. writing l (behind sf w.running w.not_stopped serves planned old written more refl))
        (drop_one fresh written x.place place)

    page_is : (next seen written).page ≡ planned_at jf x.place
    page_is =
        ap (λ (l : List PlannedPage). (next l written).page) same
        ∙ sym (next_page sf w.running w.not_stopped serves planned old written more refl (suc written) x next_is)

    module _ (disk : D)
        (touches : CallsLeaveOnly d p.disk disk (Written (d.images p.disk) at Plain (next seen written).page))
        (pages : d.pages disk ≡ d.pages p.disk) where
      touched : CallsLeaveOnly d p.disk disk
          (Written (d.images p.disk) (p.super.md_start + x.place) Plain (planned_at jf x.place))
      touched = subst₂
          (λ n page. CallsLeaveOnly d p.disk disk (Written (d.images p.disk) n Plain page)) at_is page_is touches

      -- it is written,
      pub wrote_fresh : WritesOnePage d.tells (device_of d p.disk) at (next seen written).page 1 (device_of d disk)
          → TurnsJob d (with_job p jf)
          (record p { disk = disk; job = Some (writing_for serves planned old (written + 1) more) })
      wrote_fresh moves = record {
        kind = kind.writes;
        of_job = tt;
        made = (
          record {
            place = x.place;
            running = record { job = jf; is = refl; rest = others; next = todo_is; runs = w.not_stopped };
            device = device_of d disk;
            moves = subst₂
                (λ n page. WritesOnePage d.tells (device_of d p.disk) n page 1 (device_of d disk)) at_is page_is moves;
            next =
                ap (λ n. record sf { job = Some (writing_for serves planned old n more); device = device_of d disk })
                (add-one written)
                ∙ ap (λ l. record sf {
                  job = Some (record jf { written = l; todo = others });
                  device = device_of d disk;
                }) (take_one fresh written x.place place);
          },
          record { moments = touched; durable = λ never. absurd (cc never); pages = pages },
        );
      }

      -- or that failed
      pub fresh_failed : length p.rows ≡ 17 → FailsToReplace (Some at) (device_of d p.disk) (device_of d disk)
          → (q : StoreView D) → {told : Option ℕ} → told ≡ waits_for_job jf
          → HasFailed jf.freeze told (record p { disk = disk }) q (d.clock q.disk) → TurnsJob d (with_job p jf) q
      fresh_failed seventeen fails q told_is failed =
          failed_putting d p jf w seventeen disk q told_is failed (Writes x.place) others todo_is
          (record { place = x.place; page = planned_at jf x.place }) refl touched pages
          (subst (λ n. FailsToReplace (Some n) (device_of d p.disk) (device_of d disk)) at_is fails)
