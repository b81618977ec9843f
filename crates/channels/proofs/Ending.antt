-- Whether all have ended.
use Rattle.std.proofs.Common.{◌≡◌, ◌⊎◌, inl, inr, ℕ, zero, suc, ◌<◌, Option, Some, None, Bool, true, false, ◌&&◌, ◌||◌}
use Rattle.std.proofs.Common.{not, List, [], ◌∷◌, refl, sym, ◌∙◌, ap, subst, arith}
use Rattle.std.specs.Prelude.{◌↔◌, is_some}
use Rattle.std.specs.Option.{option_map}
use Rattle.std.proofs.lemmas.Bool.{cases_lt}
use Rattle.super_block.specs.declared.page.Super.{Super}
use Rattle.volume_model.specs.declared.command.Command.{Command}
use Rattle.volume_model.specs.declared.reply.Msg.{Msg}
use Rattle.md_thread.specs.Holding.{HaveEnded, MetadataState}
use Rattle.md_thread.proofs.StandsNow.{stands, unused}
use Rattle.md_thread.proofs.StepsDue.{unused as is_unused, used as is_used}
use Rattle.running_store.specs.Stages.{is_stage}
use Rattle.running_store.specs.declared.rows.RowStage.TheVariants.{Over}
use Rattle.page_disk.specs.declared.disk.PageDisk.{Ghosts}
use Rattle.store_model.specs.Filling.{FillStands, StandsAt, unused_row}
use Rattle.store_model.specs.Rows.{Claiming, Copying, Decided, Ended, fill_row, Idle, InJob, Posted, Ready, Row, Stage}
use Rattle.store_model.specs.StateLaws.{StateLaws}
use Rattle.store_model.specs.StoreState.{JobState}
use Rattle.store_model.specs.RunInvariant.{MayClaim}
use Rattle.store_model.proofs.Shaped.{no_claim}
use Rattle.store_core.specs.StoreInvariant.{StoreInvariant}
use Rattle.running_store.specs.StoreView.{rows_of, state_of, WithOpening}
use Rattle.run_work.specs.Reading.{has_any, is_in_use, is_there}
use Rattle.run_work.specs.RunFacts.{in_queue, is_filled_for, is_held, is_waiting, IsOneOf, IsOnTheWay, RunFacts}
use Rattle.run_work.specs.RunLaws.{FactLaws}
use Rattle.run_work.specs.Steps.{can_metadata, ended_below, has_ended}
use Rattle.run_moves.specs.DrivenStore.{DrivenStore, run_of}
use Rattle.run_moves.specs.DriverSteps.{has_all_ended}
use Rattle.run_moves.specs.Projection.{job_in_run, rows_in_run, stage_in_run}
use Rattle.channels.specs.ChannelState.{ChannelState}
use Rattle.channels.specs.RunEnds.{ended_row}
use Rattle.channels.specs.Driving.{driven_of}
use Rattle.channels.proofs.MetadataActing.{by_use}

-- ---- rows

module _ (s : Super) (rows : List Row) where
  all_below : (n : ℕ) → ((k : ℕ) → k < n → (rows_of rows k).stage ≡ Ended)
      → ended_below (rows_in_run s (rows_of rows)) n ≡ true
  all_below zero all = refl
  all_below (suc n) all =
      ap (λ b. b && has_ended (stage_in_run (rows_of rows n).stage)) (all_below n (λ k low. all k (omega (arith, low))))
      ∙ ap (λ (x : Stage). has_ended (stage_in_run x)) (all n (omega arith))

  both : (a b : Bool) → (a && b) ≡ true → (a ≡ true) × (b ≡ true)
  both true true is = (refl, refl)
  both true false is = absurd (cc is)
  both false b is = absurd (cc is)

  ended_stage : (stage : Stage) → has_ended (stage_in_run stage) ≡ true → stage ≡ Ended
  ended_stage Ended is = refl
  ended_stage Idle is = absurd (cc is)
  ended_stage Claiming is = absurd (cc is)
  ended_stage (Copying left) is = absurd (cc is)
  ended_stage Ready is = absurd (cc is)
  ended_stage (Posted serial) is = absurd (cc is)
  ended_stage InJob is = absurd (cc is)
  ended_stage (Decided outcome) is = absurd (cc is)

  each_below : (n : ℕ) → ended_below (rows_in_run s (rows_of rows)) n ≡ true → (k : ℕ) → k < n
      → (rows_of rows k).stage ≡ Ended
  each_below zero is k low = absurd (omega (arith, low))
  each_below (suc n) is k low =
      let x = both _ _ is in
      elim (last k n low) [
        | inl below ↦ each_below n x.0 k below
        | inr same ↦ subst (λ j. (rows_of rows j).stage ≡ Ended) (sym same) (ended_stage (rows_of rows n).stage x.1)
      ]
    where
      last : (k n : ℕ) → k < suc n → (k < n) ⊎ (k ≡ n)
      last k n low = elim (cases_lt k n) [
        | inl below ↦ inl below
        | inr high ↦ inr (omega (arith, low, high))
      ]

-- ---- all

pub none_runs : (b : Bool) → not b ≡ true → b ≡ false
none_runs true is = absurd (cc is)
none_runs false is = refl

pub some_runs : (b : Bool) → not b ≡ false → b ≡ true
some_runs true is = refl
some_runs false is = absurd (cc is)

rest_only : (a used : Bool) → (a || false || false || false || false || used) ≡ (a || used)
rest_only true used = refl
rest_only false used = refl

-- the job's place is taken while it runs
job_seen : (o : Option JobState) → is_there (option_map job_in_run o) ≡ is_some o
job_seen None = refl
job_seen (Some j) = refl

module _ {D : Type 0} (d : Ghosts D) (p : WithOpening D) (channels : List ChannelState) (queue : List Msg)
    (s : MetadataState) (facts : RunFacts (run_of (driven_of (state_of d p.at) channels queue s))) (laws : FactLaws)
  where
    abbrev w : DrivenStore
    w = driven_of (state_of d p.at) channels queue s

    -- behind the end no message is on its way
    none_on_way : HaveEnded p.at.rows → (m : Msg) → IsOnTheWay (run_of w) m → ⊥
    none_on_way ended m way =
        let x = laws.posted (run_of w) m facts way in
        let bad = sym (ap stage_in_run (ended m.channel x.0)) ∙ x.1 in cc bad

    no_message : HaveEnded p.at.rows → (o : Option Msg) → ((m : Msg) → o ≡ Some m → IsOnTheWay (run_of w) m)
        → is_there o ≡ false
    no_message ended None way = refl
    no_message ended (Some m) way = absurd (none_on_way ended m (way m refl))

    no_messages : HaveEnded p.at.rows → (l : List Msg) → ((m : Msg) → IsOneOf m l → IsOnTheWay (run_of w) m)
        → has_any l ≡ false
    no_messages ended [] way = refl
    no_messages ended (m ∷ l) way = absurd (none_on_way ended m (way m (inl refl)))

    abbrev used : Bool
    used = is_in_use (stage_in_run (rows_of p.at.rows 16).stage)

    can_by : HaveEnded p.at.rows → can_metadata (run_of w) ≡ (is_some p.at.job || used)
    can_by ended =
        ap (λ b. b || is_there s.held || has_any queue || has_any s.waiting || is_there s.fill || used)
        (job_seen p.at.job)
        ∙ ap (λ b. is_some p.at.job || b || has_any queue || has_any s.waiting || is_there s.fill || used)
        (no_message ended s.held (λ m is. is_held is))
        ∙ ap (λ b. is_some p.at.job || false || b || has_any s.waiting || is_there s.fill || used)
        (no_messages ended queue (λ m is. in_queue is))
        ∙ ap (λ b. is_some p.at.job || false || false || b || is_there s.fill || used)
        (no_messages ended s.waiting (λ m is. is_waiting is))
        ∙ ap (λ b. is_some p.at.job || false || false || false || b || used)
        (no_message ended s.fill (λ m is. is_filled_for is))
        ∙ rest_only (is_some p.at.job) used

    abbrev all : Bool
    all = has_all_ended w

    -- every channel has ended, and whether a job runs or slots are filled decides
    by_rest : HaveEnded p.at.rows → not (is_some p.at.job || used) ≡ all
    by_rest ended = sym (ap (λ b. b && not (can_metadata (run_of w))) (all_below p.at.super p.at.rows 16 ended)
        ∙ ap not (can_by ended))

    pub runs_on : HaveEnded p.at.rows → is_some p.at.job ≡ true → false ≡ all
    runs_on ended runs = sym (ap (λ b. not (b || used)) runs) ∙ by_rest ended

    -- without a job the fill's row decides
    pub ended_by_row : HaveEnded p.at.rows → is_some p.at.job ≡ false → FillStands (state_of d p.at) → (over : Bool)
        → (over ≡ true) ↔ (is_stage (rows_of p.at.rows fill_row) fill_row ≡ Over) → over ≡ all
    ended_by_row ended none stands over is = by over is ∙ sym (ap (λ b. not (b || used)) none) ∙ by_rest ended
      where
        row : Row
        row = rows_of p.at.rows fill_row

        by : (b : Bool) → (b ≡ true) ↔ (is_stage row fill_row ≡ Over) → b ≡ not used
        by true e = sym (ap not (is_unused row fill_row (e.0 refl)))
        by false e = sym (ap not (is_used p.at.filling row fill_row stands.stage stands.left
            (λ x. let bad = e.1 x in cc bad)))

    -- some channel has not
    pub not_ended : (HaveEnded p.at.rows → ⊥) → false ≡ all
    not_ended none = by (ended_below (rows_in_run p.at.super (rows_of p.at.rows)) 16) refl
      where
        by : (b : Bool) → ended_below (rows_in_run p.at.super (rows_of p.at.rows)) 16 ≡ b → false ≡ all
        by true is = absurd (none (λ k low. each_below p.at.super p.at.rows 16 is k low))
        by false is = sym (ap (λ b. b && not (can_metadata (run_of w))) is)

-- ---- a run's end

-- a fill's row that isn't used is at no stage
idle_by : (filling : Option ℕ) (stage : Stage) → StandsAt filling stage → is_in_use (stage_in_run stage) ≡ false
    → stage ≡ Idle
idle_by filling Idle at not = refl
idle_by filling Claiming at not = absurd (cc not)
idle_by filling (Copying left) at not = absurd (cc not)
idle_by filling Ready at not = absurd (cc not)
idle_by filling (Posted serial) at not = absurd (cc not)
idle_by filling InJob at not = absurd (cc not)
idle_by filling (Decided outcome) at not = absurd (cc not)
idle_by None Ended at not = absurd at
idle_by (Some channel) Ended at not = absurd at

module _ {D : Type 0} (d : Ghosts D) (p : WithOpening D) (kept : StoreInvariant d p) (channels : List ChannelState)
    (queue : List Msg) (s : MetadataState)
    (over : has_all_ended (driven_of (state_of d p.at) channels queue s) ≡ true) where
  parts : (ended_below (rows_in_run p.at.super (rows_of p.at.rows)) 16 ≡ true)
      × (not (can_metadata (run_of (driven_of (state_of d p.at) channels queue s))) ≡ true)
  parts = both p.at.super p.at.rows _ _ over

  pub row_over : (k : ℕ) → k < 16 → rows_of p.at.rows k ≡ ended_row
  row_over k low =
      let stage = each_below p.at.super p.at.rows 16 parts.0 k low in
      let left = kept.facts.shaped.ended k stage in
      let claim = no_claim (state_of d p.at) kept.facts.shaped k (λ may. subst MayClaim stage may) in
      λ i. record { left = left i; stage = stage i; claim = claim i }

  pub job_over : p.at.job ≡ None
  job_over = by p.at.job refl
    where
      by : (o : Option JobState) → p.at.job ≡ o → o ≡ None
      by None is = refl
      by (Some j) is = absurd (
          let can : can_metadata (run_of (driven_of (state_of d p.at) channels queue s)) ≡ true =
          ap (λ (o : Option JobState). is_there (option_map job_in_run o) || is_there s.held || has_any queue
          || has_any s.waiting || is_there s.fill || is_in_use (stage_in_run (rows_of p.at.rows 16).stage)) is in
          let bad = sym (ap not can) ∙ parts.1 in cc bad
          )

  pub row_unused : StateLaws → rows_of p.at.rows fill_row ≡ unused_row
  row_unused laws = unused d laws p kept (
      ap (λ (l : List Command). is_stage (record row { left = l }) fill_row) now.left
      ∙ ap (λ (x : Stage). is_stage (record { left = []; stage = x; claim = row.claim }) fill_row)
      (idle_by p.at.filling row.stage now.stage (not_used _ refl)))
    where
      row : Row
      row = rows_of p.at.rows fill_row

      now : FillStands (state_of d p.at)
      now = stands d laws p kept

      not_used : (b : Bool) → is_in_use (stage_in_run row.stage) ≡ b → is_in_use (stage_in_run row.stage) ≡ false
      not_used false is = is
      not_used true is = absurd (let bad =
          sym (ap not (by_use (run_of (driven_of (state_of d p.at) channels queue s)) is)) ∙ parts.1 in cc bad)
