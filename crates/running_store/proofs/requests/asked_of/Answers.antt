use Rattle.std.proofs.Common.{◌≡◌, false, Option, Some, None, refl, sym, ◌∙◌}
use Rattle.std.specs.Prelude.{is_some}
use Rattle.std.specs.Option.{option_map}
use Rattle.running_store.specs.Stages.{claim_seen}
use Rattle.running_store.specs.declared.stages.OpenClaim as held
use Rattle.running_store.proofs.Requested.{first_got, none_got}
use Rattle.running_store.proofs.requests.asked_of.Goals as goal

-- no claim is seen where there is none
none_seen : (o : Option held.OpenClaim) → is_some o ≡ false → option_map claim_seen o ≡ None
none_seen None none = refl
none_seen (Some claim) none = absurd (cc none)

pub unreachable-requires : goal.unreachable-requires
unreachable-requires c = c.requires
    (sym c.claim.ensures ∙ none_seen c.claim.result (sym c.is_some.ensures ∙ c.if-is_some.false))
    (none_got c.args.row.now.left (sym c.in-None.ensures))

pub returns : goal.returns
returns c =
    let first = first_got c.args.row.now.left c.in-Some.command.now (sym c.in-Some.ensures) in
    (sym c.claim.ensures ∙ none_seen c.claim.result (sym c.is_some.ensures ∙ c.if-is_some.false), first.0, first.1)
