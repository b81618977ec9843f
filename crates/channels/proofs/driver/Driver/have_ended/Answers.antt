use Rattle.std.proofs.Common.{◌≡◌, false, true, sym, ◌∙◌}
use Rattle.std.specs.Prelude.{is_some}
use Rattle.channels.proofs.Ending.{ended_by_row, none_runs, not_ended, runs_on, some_runs}
use Rattle.channels.proofs.Keeping.{stands}
use Rattle.channels.proofs.driver.Driver.have_ended.Goals as goal
use Rattle.channels.proofs.driver.Driver.have_ended.Goals.{then-have_ended, else-have_ended}

pub returns-then-not-job_runs : goal.returns-then-not-job_runs
returns-then-not-job_runs g c =
    let d = g.D.PageDisk in
    let v = c.args.self.now in
    elim c.if-have_ended.branch [
      | then-have_ended w ↦
          let none : is_some v.plant.at.job ≡ false =
          sym w.job_runs.ensures ∙ none_runs w.job_runs.result (sym w.value-is ∙ c.if-not-job_runs.true) in
          ended_by_row d v.plant v.channels v.queue v.metadata c.requires.driven.run c.moves_keep_facts.ensures
          (c.have_ended.ensures.0 w.if-have_ended.true) none
          (stands d c.state_turns.ensures v.plant c.keeps.ensures) c.fill_row_is_over.result c.fill_row_is_over.ensures
      | else-have_ended w ↦ let bad = sym w.value-is ∙ c.if-not-job_runs.true in absurd (cc bad)
    ]

pub returns-else-not-job_runs : goal.returns-else-not-job_runs
returns-else-not-job_runs g c =
    let d = g.D.PageDisk in
    let v = c.args.self.now in
    elim c.if-have_ended.branch [
      | then-have_ended w ↦
          let some : is_some v.plant.at.job ≡ true =
          sym w.job_runs.ensures ∙ some_runs w.job_runs.result (sym w.value-is ∙ c.if-not-job_runs.false) in
          c.if-not-job_runs.false
          ∙ runs_on d v.plant v.channels v.queue v.metadata c.requires.driven.run c.moves_keep_facts.ensures
          (c.have_ended.ensures.0 w.if-have_ended.true) some
      | else-have_ended w ↦
          c.if-not-job_runs.false
          ∙ not_ended d v.plant v.channels v.queue v.metadata c.requires.driven.run c.moves_keep_facts.ensures
          (λ ended. let bad = sym w.if-have_ended.false ∙ c.have_ended.ensures.1 ended in cc bad)
    ]
