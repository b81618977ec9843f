use Rattle.std.proofs.Common.{◌≡◌, ◌<◌, ℕ, Bool, true, false, List, Option, None, refl, ap, arith, subst, sym}
use Rattle.std.specs.Prelude.{is_some, not}
use Rattle.std.specs.FinMap as map
use Rattle.pools.specs.Pool.{clear_in}
use Rattle.job_begins.specs.Begins.{needed, LacksPages}
use Rattle.job_begins.proofs.Needed.{lacks_pages}
use Rattle.job_begins.proofs.preparing.prepare.Goals as goal

-- a blob that is made isn't there
not_there : (makes : Bool) (chain : Option (List ℕ)) → (makes ≡ false → is_some chain ≡ true)
    → (makes ≡ true → chain ≡ None) → is_some chain ≡ not makes
not_there false chain there none = there refl
not_there true chain there none = ap is_some (none refl)

pub returns-then-clear_count-needs-clause-lack : goal.returns-then-clear_count-needs-clause-lack
returns-then-clear_count-needs-clause-lack c =
    let chain = map.get c.args.chains.now c.args.head in
    let there : is_some chain ≡ not c.args.makes =
    not_there c.args.makes chain (λ none. ap is_some (c.requires.there none).1) c.requires.none in
    let needs = c.pages_needed-needs.ensures in
    let clear = c.clear_count.ensures in
    let fewer = c.if-clear_count-needs.true in
    let low : clear_in c.args.pages.now.bits < needed c.args.makes c.in_ok-items.items =
    omega (arith, clear, fewer, needs) in
    subst (λ (b : Bool). LacksPages b c.args.new.now c.args.pages.now.bits) (sym there)
    (lacks_pages c.args.new.now c.in_ok-items.items c.in_ok-items.ensures.are c.args.makes c.args.pages.now.bits low)
