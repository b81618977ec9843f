use Rattle.std.proofs.Common.{ℕ, ◌≤◌, ◌^◌, ◌*◌, ◌++◌, ap, ◌∙◌, length, subst, arith}
use Rattle.script_lang.specs.Schedules.{repeated, written_out}
use Rattle.script_lang.proofs.Schedules.{written_out_last, pushed_steps}
use Rattle.script_lang.proofs.schedule.Schedule.push.Goals as goal

pub invariant_of-self-2 : goal.invariant_of-self-2
invariant_of-self-2 c =
    let more = ap (λ n. c.args.part.count * n) c.len.ensures in
    let before = ap length c.self.view_is in (
      pushed_steps c.self.inside.parts _ c.args.part _ _ c.self.invariant.0 c.len.ensures c.in_ok-push.ensures.ok,
      omega (arith, c.self.invariant.0, before, more, c.requires.room),
    )

pub returns-clause-few : goal.returns-clause-few
returns-clause-few c =
    let more = ap (λ n. c.args.part.count * n) c.len.ensures in
    let before = ap length c.self.view_is in
    let all = pushed_steps c.self.inside.parts c.push.new.self c.args.part c.self.inside.steps c.len.result
    c.self.invariant.0 c.len.ensures c.in_ok-push.ensures.ok in
    subst (λ (n : ℕ). n ≤ 2 ^ 16) all (omega (arith, c.self.invariant.0, before, more, c.requires.room))

pub returns-clause-ok : goal.returns-clause-ok
returns-clause-ok c =
    ap written_out c.in_ok-push.ensures.ok ∙ written_out_last c.self.inside.parts c.args.part
    ∙ ap (λ steps. steps ++ repeated c.args.part.count c.args.part.actors) c.self.view_is
