-- What a turn of a job makes of the store behind a replacement: old pages are erased, and given back with the last.
use Rattle.std.proofs.Common.{◌≡◌, ◌≢◌, ℕ, suc, ◌+◌, ◌<◌, ◌≤◌, Bool, All, List, [], ◌∷◌, length, get_or, Option}
use Rattle.std.proofs.Common.{Some, None, refl, sym, ◌∙◌, ap, subst, subst₂, arith, add-one, inl, inr, IsTrue, true}
use Rattle.std.proofs.Common.{false}
use Rattle.std.proofs.lemmas.Bool.{cases_lt}
use Rattle.std.specs.Prelude.{slice_get, slice_set}
use Rattle.bit_array.specs.Bits.{is_in}
use Rattle.page_disk.specs.Disk.{Only, Written}
use Rattle.page_disk.specs.Moments.{CallsLeaveOnly}
use Rattle.page_disk.specs.declared.disk.PageDisk.{Ghosts}
use Rattle.page_disk.specs.declared.disk.WriteKind.TheVariants.{Plain}
use Rattle.volume_model.specs.Volumes.{zero_page}
use Rattle.store_model.specs.Cases.{WritesOnePage, FailsToReplace, put_by}
use Rattle.store_model.specs.Cases as kind
use Rattle.store_model.specs.Phases.{Phase}
use Rattle.store_model.specs.Phases as phase
use Rattle.store_model.specs.Places.{all_set, AreDistinct}
use Rattle.store_model.specs.Rows.{Decided, InJob, Row, Rows, with_row, Won}
use Rattle.store_model.specs.StoreState.{ForInsert, JobState, StoreState}
use Rattle.store_model.specs.Turning.{Runs}
use Rattle.store_model.specs.Guarding.{frozen_behind}
use Rattle.store_model.proofs.Guarding.{frozen_still}
use Rattle.running_store.specs.Jobs.{erasing_for, freeze_of, job_left, service_of, waits_for_job}
use Rattle.running_store.specs.StoreView.{StoreView, device_of, rows_of, state_of}
use Rattle.running_store.specs.declared.job.Serves.{Serves}
use Rattle.running_store.specs.declared.job.Serves.TheVariants as whom
use Rattle.running_store.proofs.JobLeft.{goes_on_left}
use Rattle.running_store.proofs.PlainFacts.{got}
use Rattle.running_store.proofs.Rowing.{low_stage, rows_set}
use Rattle.metadata_turns.specs.JobTurns.{guards_left, with_job, IsAtWork, TurnsJob}
use Rattle.metadata_turns.specs.Telling.{HasInsertRow, IsWon, HasFailed}
use Rattle.job_views.proofs.PlannedPages.{among_at}
use Rattle.metadata_turns.proofs.AtWork.{last_one, old_distinct, old_in_use, old_low, one_more}
use Rattle.metadata_turns.proofs.Behind.{state_left}
use Rattle.metadata_turns.proofs.InsertFailed.{insert_low, inserting, waits}
use Rattle.metadata_turns.proofs.JobFailed.{failed_putting}

-- the row of an insert waits for the old pages
pub insert_row : {D : Type 0} (d : Ghosts D) (p : StoreView D) (serves : Serves) (old : List ℕ) (erased : ℕ)
    (more : List Phase) → IsAtWork d p (erasing_for serves old erased more) → length p.rows ≡ 17
    → HasInsertRow serves
insert_row d p (whom.Command channel freeze) old erased more w seventeen = tt
insert_row d p (whom.Insert row) old erased more w seventeen =
    insert_low d p (erasing_for (whom.Insert row) old erased more) w row refl seventeen
insert_row d p whom.Repair old erased more w seventeen = tt

module _ {D : Type 0} (d : Ghosts D) (p : StoreView D) (serves : Serves) (old : List ℕ) (erased : ℕ)
    (more : List Phase) (w : IsAtWork d p (erasing_for serves old erased more)) (some : erased < length old) where
  abbrev k : JobState
  k = erasing_for serves old erased more

  abbrev t : StoreState
  t = state_of d (with_job p k)

  -- the next old place
  abbrev place : ℕ
  place = get_or old erased 0

  next : slice_get old erased ≡ Some place
  next = got old erased 0 some

  old_below : place < p.super.md_len
  old_below = old_low t w.running w.not_stopped serves old erased more refl some place (among_at old erased place next)

  pub old_differ : AreDistinct old
  old_differ = old_distinct t w.running w.not_stopped serves old erased more refl some

  pub old_used : All (λ x. is_in p.pages x ≡ true) old
  old_used = old_in_use t w.running w.not_stopped serves old erased more refl some

  more_left : erased + 1 < length old
      → k.todo ≡ phase.Erases place ∷ (erasing_for serves old (suc erased) more).todo
  more_left = one_more t w.running w.not_stopped serves old erased more refl some place next

  last_left : erased + 1 ≡ length old → k.todo ≡ phase.Frees place old ∷ more
  last_left = last_one t w.running w.not_stopped serves old erased more refl some place next

  -- its page of the device
  module _ {seen : List ℕ} (same : seen ≡ old) (at : ℕ) (at_seen : at ≡ p.super.md_start + get_or seen erased 0) where
    at_is : at ≡ p.super.md_start + place
    at_is = at_seen ∙ ap (λ (l : List ℕ). p.super.md_start + get_or l erased 0) same

    -- it lies there
    pub page_inside : (bound : ℕ) → p.super.md_start + p.super.md_len ≤ bound → at < bound
    page_inside bound inside = let is = at_is in let below = old_below in omega (arith, is, below, inside)

    -- zeros are written there
    module _ (disk : D) {content : List ℕ} (blank : content ≡ zero_page)
        (touches : CallsLeaveOnly d p.disk disk (Written (d.images p.disk) at Plain content))
        (pages : d.pages disk ≡ d.pages p.disk) where
      cleared : CallsLeaveOnly d p.disk disk (Written (d.images p.disk) (p.super.md_start + place) Plain zero_page)
      cleared = subst₂
          (λ n page. CallsLeaveOnly d p.disk disk (Written (d.images p.disk) n Plain page)) at_is blank touches

      moved : (clock : ℕ) → WritesOnePage d.tells (device_of d p.disk) at content clock (device_of d disk)
          → WritesOnePage d.tells (device_of d p.disk) (p.super.md_start + place) zero_page clock (device_of d disk)
      moved clock moves = subst₂
          (λ n page. WritesOnePage d.tells (device_of d p.disk) n page clock (device_of d disk)) at_is blank moves

      -- or that failed, be it the last one or not
      pub erase_failed : length p.rows ≡ 17 → FailsToReplace (Some at) (device_of d p.disk) (device_of d disk)
          → (q : StoreView D) → {told : Option ℕ} → told ≡ waits_for_job k
          → HasFailed k.freeze told (record p { disk = disk }) q (d.clock q.disk) → TurnsJob d (with_job p k) q
      erase_failed seventeen fails q told_is failed = elim (cases_lt (erased + 1) (length old)) [
        | inl later ↦ put (phase.Erases place) _ (more_left later) refl
        | inr none ↦ put (phase.Frees place old) more (last_left (omega (arith, some, none))) refl
      ]
        where
          put : (x : Phase) (others : List Phase) → k.todo ≡ x ∷ others
              → put_by k x ≡ Some (record { place = place; page = zero_page }) → TurnsJob d (with_job p k) q
          put x others todo is =
              failed_putting d p k w seventeen disk q told_is failed x others todo _ is cleared pages
              (subst (λ n. FailsToReplace (Some n) (device_of d p.disk) (device_of d disk)) at_is fails)

      -- one that isn't the last is erased
      pub erased_one : erased + 1 < length old
          → WritesOnePage d.tells (device_of d p.disk) at content 1 (device_of d disk)
          → TurnsJob d (with_job p k) (record p { disk = disk; job = Some (erasing_for serves old (erased + 1) more) })
      erased_one later moves = record {
        kind = kind.erases;
        of_job = tt;
        made = (
          record {
            place = place;
            running = record {
              job = k;
              is = refl;
              rest = (erasing_for serves old (suc erased) more).todo;
              next = more_left later;
              runs = w.not_stopped;
            };
            device = device_of d disk;
            moves = moved 1 moves;
            next = ap (λ n. record t { job = Some (erasing_for serves old n more); device = device_of d disk })
                (add-one erased);
          },
          record { moments = cleared; durable = λ never. absurd (cc never); pages = pages },
        );
      }

      -- the last old page is written, and all old pages are clear
      module _ (last : erased + 1 ≡ length old)
          (moves : WritesOnePage d.tells (device_of d p.disk) at content 2 (device_of d disk))
          (durable : IsTrue d.tells → Only (d.now disk) (d.images disk)) (bits : List Bool)
          (bits_are : bits ≡ all_set p.pages old false) (left : Option JobState) (left_is : left ≡ job_left serves more)
        where
          abbrev ends : Runs t (phase.Frees place old)
          ends = record { job = k; is = refl; rest = more; next = last_left last; runs = w.not_stopped }

          abbrev bare_view : StoreView D
          bare_view = record p { disk = disk; pages = bits; job = left }

          abbrev freed_view : StoreView D
          freed_view = record bare_view { guards = guards_left p.guards serves left }

          freed_by : ((row : ℕ) → service_of serves ≢ ForInsert row) → (q : StoreView D)
              → q ≡ freed_view → TurnsJob d (with_job p k) q
          freed_by no_insert q is = subst (TurnsJob d (with_job p k)) (sym is) (record {
            kind = kind.frees;
            of_job = tt;
            made = (
              record {
                place = place;
                old = old;
                running = ends;
                no_insert = no_insert;
                device = device_of d disk;
                moves = moved 2 moves;
                next = state_left d bare_view serves k refl more left left_is
                    ∙ ap (λ b. record t {
                      job = left;
                      frozen = frozen_behind t.frozen k more;
                      pages = b;
                      device = device_of d disk;
                    }) bits_are
                    ∙ ap (λ o. record t {
                      job = o;
                      frozen = frozen_behind t.frozen k more;
                      pages = all_set p.pages old false;
                      device = device_of d disk;
                    }) (left_is ∙ sym (goes_on_left serves k refl refl refl more));
              },
              record { moments = cleared; durable = λ _. durable; pages = pages },
            );
          })

          -- of an insert's job, of which nothing is left
          freed_inserted : (channel : ℕ) → serves ≡ whom.Insert channel → more ≡ [] → (q : StoreView D)
              → IsWon (whom.Insert channel) freed_view q
              → TurnsJob d (with_job p k) q
          freed_inserted channel is none q won =
              let inserts : service_of serves ≡ ForInsert channel = ap service_of is in
              let given : Row = record { left = (rows_of p.rows channel).left; stage = Decided Won; claim = None } in
              subst (TurnsJob d (with_job p k)) (sym won) (record {
                kind = kind.insert_ends;
                of_job = tt;
                made = (
                  record {
                    place = place;
                    old = old;
                    running = ends;
                    last = none;
                    inserting = inserting d p k w channel inserts;
                    device = device_of d disk;
                    moves = moved 2 moves;
                    next = ap (λ (a : StoreState). record a { rows = rows_of (slice_set p.rows channel given) })
                        (state_left d bare_view serves k refl more left left_is)
                        ∙ ap (λ (f : ℕ → Bool). record t {
                          rows = rows_of (slice_set p.rows channel given);
                          job = left;
                          frozen = f;
                          pages = bits;
                          device = device_of d disk;
                        }) (frozen_still t.frozen k more (ap freeze_of is))
                        ∙ ap (λ (rows : Rows).
                        record t { rows = rows; job = left; pages = bits; device = device_of d disk })
                        (rows_set p.rows channel given
                        (low_stage p.rows channel InJob (waits d p k w channel inserts).stage (λ e. cc e)))
                        ∙ ap (λ b. record t {
                          rows = with_row (rows_of p.rows) channel given;
                          job = left;
                          pages = b;
                          device = device_of d disk;
                        }) bits_are
                        ∙ ap (λ o. record t {
                          rows = with_row (rows_of p.rows) channel given;
                          job = o;
                          pages = all_set p.pages old false;
                          device = device_of d disk;
                        }) (left_is ∙ ap (job_left serves) none);
                  },
                  record { moments = cleared; durable = λ _. durable; pages = pages },
                );
              })

          -- whomever it is for
          pub freed_all : ((channel : ℕ) → serves ≡ whom.Insert channel → more ≡ []) → (q : StoreView D)
              → IsWon serves freed_view q → TurnsJob d (with_job p k) q
          freed_all alone q won = by serves refl
            where
              by : (x : Serves) → serves ≡ x → TurnsJob d (with_job p k) q
              by (whom.Command channel freeze) is =
                  freed_by (λ row bad. let no = sym (ap service_of is) ∙ bad in cc no) q
                  (subst (λ (x : Serves). IsWon x freed_view q) is won)
              by (whom.Insert channel) is =
                  freed_inserted channel is (alone channel is) q (subst (λ (x : Serves). IsWon x freed_view q) is won)
              by whom.Repair is =
                  freed_by (λ row bad. let no = sym (ap service_of is) ∙ bad in cc no) q
                  (subst (λ (x : Serves). IsWon x freed_view q) is won)
