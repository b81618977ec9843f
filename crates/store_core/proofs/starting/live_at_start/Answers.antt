use Rattle.std.proofs.Common.{◌+◌, subst, sym, ap, ◌∙◌, arith}
use Rattle.std.specs.Prelude.{option_copied}
use Rattle.std.specs.FinMap as map
use Rattle.blob_meta.proofs.HeadsThere.{up_to_end, up_to_next}
use Rattle.store_core.proofs.Starts.{LiveBelow, live_all, live_nothing, live_some, live_none}
use Rattle.store_core.proofs.starting.live_at_start.Goals as goal
use Rattle.store_core.proofs.starting.live_at_start.Goals.{in-Some-get+in_ok-try_copy+in_ok-insert, in_default-get}

pub loop-head-init : goal.loop-head-init
loop-head-init c = (omega arith, rw c.new-live.ensures (live_nothing c.args.metas.now))

pub loop-head-preserved : goal.loop-head-preserved
loop-head-preserved c =
    let metas = c.args.metas.now in
    let live = c.loop-head.live in
    let head = c.in-Some.head in
    let low = c.in-Some.ensures.below in
    let so_far : LiveBelow metas live head =
    up_to_next metas (LiveBelow metas live) (λ h none below. live_none metas live h below none) c.loop-head.from head
    c.in-Some.ensures.some c.loop-head.invariant.1 in
    elim c.match-get.branch [
      | in-Some-get+in_ok-try_copy+in_ok-insert w ↦ (
        omega (arith, low),
        subst (λ l. LiveBelow metas l (head + 1))
            (sym (w.live-is ∙ w.in_ok-insert.ensures.ok ∙ ap (map.insert live head) w.in_ok-try_copy.ensures))
            (live_some metas live head so_far w.in-Some-get.meta.now
            (sym c.get.ensures ∙ ap option_copied w.in-Some-get.is)),
      )
      | in_default-get w ↦ (
        omega (arith, low),
        subst (λ l. LiveBelow metas l (head + 1)) (sym w.live-is)
            (live_none metas live head so_far (sym c.get.ensures ∙ ap option_copied w.in_default-get.is)),
      )
    ]

pub returns : goal.returns
returns c =
    let metas = c.args.metas.now in
    let live = c.loop-head.live in
    live_all metas live c.args.md_len (up_to_end metas (LiveBelow metas live)
    (λ h none below. live_none metas live h below none) c.loop-head.from c.args.md_len c.loop-head.invariant.0
    c.in_default.ensures.none c.loop-head.invariant.1) c.requires
