-- What is known of the replacements of a job before their pages are taken, and how many they take.
use Rattle.std.proofs.Common.{◌≡◌, ◌∙◌, ℕ, ◌-◌, Bool, true, false, List, [], ◌∷◌, length, map, None, Option, Some}
use Rattle.std.proofs.Common.{refl, sym, ap, subst, arith, inl}
use Rattle.std.specs.Prelude.{is_some, not}
use Rattle.volume_model.specs.declared.command.Command.{Command}
use Rattle.volume_model.specs.declared.reply.Reply.{Reply}
use Rattle.volume_model.specs.declared.reply.Reply.TheVariants as r
use Rattle.blob_meta.specs.declared.job.Job.{Job}
use Rattle.blob_meta.specs.declared.job.Replacement.{Replacement}
use Rattle.blob_meta.specs.declared.meta.Meta.{Meta}
use Rattle.md_chain.specs.Packing.{parts_of}
use Rattle.md_chain.proofs.Fitting.{some_parts}
use Rattle.store_model.specs.Asking.{IsJobFor}
use Rattle.store_model.specs.Cases.{IsRefusedAtBegin}
use Rattle.store_model.specs.Jobs.{with_zeroed, Needs}
use Rattle.store_model.specs.Laid.{AllTake, Takes}
use Rattle.store_model.specs.Maps.{with_option, Metas}
use Rattle.store_model.specs.Phases.{Committing}
use Rattle.store_model.specs.Shown.{fixed_of}
use Rattle.store_model.specs.StoreState.{shown, StoreState}
use Rattle.store_model.proofs.JobReady.{plain_zeroed}
use Rattle.job_begins.specs.Begins.{needed}
use Rattle.job_begins.specs.Drafts.{IsDraft}
use Rattle.job_begins.specs.JobPages.{IsShort}
use Rattle.job_begins.specs.JobSteps.{change_of, needs_of, needs_together}
use Rattle.job_begins.specs.declared.drafts.Draft.{Draft}
use Rattle.job_begins.specs.declared.steps.Step.{Step}
use Rattle.job_begins.specs.declared.steps.Step.TheVariants as step
use Rattle.job_begins.proofs.Lacking.{may_lack}

-- Over this metadata a draft is made, and makes its blob exactly where none is there; or a blob is there that is erased.
abbrev pub IsOver : Metas → Step → Type 0
IsOver base (step.Writes x) = IsDraft x × (is_some x.effects.rooms.chain ≡ not (is_some (base x.head)))
IsOver base (step.Erases e) = is_some (base e.head) ≡ true

-- the metadata once it is made
abbrev pub base_with : Metas → Step → Metas
base_with base x = with_option base (change_of x).head (change_of x).new

-- each over what the ones before it leave
abbrev pub AreOver : Metas → List Step → Type 0
AreOver base [] = Unit {0}
AreOver base (x ∷ xs) = IsOver base x × AreOver (base_with base x) xs

-- where a blob is there none is made
pub stays : {m : Meta} (base : Metas) (head : ℕ) → base head ≡ Some m → false ≡ not (is_some (base head))
stays base head is = ap (λ (o : Option Meta). not (is_some o)) (sym is)

-- ---- how many pages they take

fresh_of : (x : Draft) → IsDraft x → Needs x.new (length (parts_of x.items) - 1)
fresh_of x is =
    let some = some_parts 4072 x.items in record { items = x.items; are = is.are; chain = omega (arith, some) }

draft_takes : (x : Draft) → IsDraft x → (there makes : Bool) → makes ≡ not there
    → Takes there (Some x.new) (needed makes x.items)
draft_takes x is true makes e = subst (λ (b : Bool). Takes true (Some x.new) (needed b x.items)) (sym e)
    (length (parts_of x.items) - 1, fresh_of x is, refl)
draft_takes x is false makes e = subst (λ (b : Bool). Takes false (Some x.new) (needed b x.items)) (sym e)
    (length (parts_of x.items) - 1, fresh_of x is, let some = some_parts 4072 x.items in omega (arith, some))

step_takes : (base : Metas) (x : Step) → IsOver base x
    → Takes (is_some (base (change_of x).head)) (change_of x).new (needs_of x)
step_takes base (step.Writes x) over =
    draft_takes x over.0 (is_some (base x.head)) (is_some x.effects.rooms.chain) over.1
step_takes base (step.Erases e) over = refl

-- they take the pages of their drafts
pub steps_take : (base : Metas) (xs : List Step) → AreOver base xs
    → AllTake base (map change_of xs) (needs_together xs)
steps_take base [] over = refl
steps_take base (x ∷ xs) over = (
  needs_of x,
  needs_together xs,
  step_takes base x over.0,
  steps_take (base_with base x) xs over.1,
  refl,
)

-- ---- why their job doesn't begin

-- that their pages aren't taken is why
pub steps_short : (p : StoreState) (command : Command) (job : Job) (commit : Committing)
    → IsJobFor p command job commit → p.job ≡ None → job.zero ≡ [] → (xs : List Step) → job.list ≡ map change_of xs
    → AreOver p.base xs → (reply : Reply) → IsShort (needs_together xs) p.pages reply
    → IsRefusedAtBegin p command reply
steps_short p command job commit asked no_job no_zeros xs list over r.NoPage low = record {
  no_job = no_job;
  changes = job;
  commit = commit;
  asked = asked;
  claimed = [];
  claims = record { least = tt; count = inl (sym (ap (λ (l : List ℕ). length l) no_zeros)) };
  lacks = record {
    count = needs_together xs;
    take = subst (λ (l : List Replacement). AllTake p.base l (needs_together xs))
        (sym (ap (λ (l : List ℕ). with_zeroed job.list l []) no_zeros ∙ plain_zeroed [] job.list ∙ list))
        (steps_take p.base xs over);
    lacking = low;
  };
}
steps_short p command job commit asked no_job no_zeros xs list over r.Memory memory =
    may_lack (fixed_of p.super) (shown p) p command job commit asked
steps_short p command job commit asked no_job no_zeros xs list over _ other = absurd other
