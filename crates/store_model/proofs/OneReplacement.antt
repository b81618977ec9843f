-- A job of one replacement, before it begins.
use Rattle.std.proofs.Common.{List, ◌≡◌, ℕ, ◌<◌, ◌≤◌, ◌^◌, Some, sym, ap, ◌∙◌, subst}
use Rattle.super_block.specs.declared.page.Super.{Super}
use Rattle.volume_model.specs.declared.command.Command.{Command}
use Rattle.blob_meta.specs.declared.meta.Meta.{Meta}
use Rattle.blob_meta.specs.Repairs.{HasNoMarks}
use Rattle.blob_meta.specs.Resolving.{IsLawful, resolved, slots_together}
use Rattle.store_model.specs.Maps.{Metas, with_entry}
use Rattle.store_model.specs.Shown.{fixed_of}
use Rattle.store_model.specs.Phases.{Committing, replaced, Replacing}
use Rattle.store_model.specs.Jobs.{IsStep, ReadsZeros}
use Rattle.store_model.specs.Steady.{AreSteady, IsSteady}
use Rattle.store_model.specs.StoreState.{StoreState}
use Rattle.store_model.proofs.Heads.{replaced_is}
use Rattle.store_model.proofs.Known.{Known}
use Rattle.store_model.proofs.LawfulGiven.{lawful_given, TakesNone}
use Rattle.store_model.proofs.Replaced.{steady_given}
use Rattle.store_model.proofs.Resolved.{steady_resolved, steady_unmarked, unmarked_resolved}

-- What is known of the replacement, whatever the verb: the new metadata is steady, all metadata is so and lawful with
-- it, and its commit is the command's step, where the clusters that it has claimed read as zeros.
pub record IsReady (p : StoreState) (claimed : List ℕ) (command : Command) (commit : Committing) (new : Meta)
    (r : Replacing) : Type 0 where
  pub steady : IsSteady p.super r.head new
  pub all_steady : AreSteady p.super (replaced p.base r)
  pub few : slots_together p.super.md_len (replaced p.base r) ≤ 2 ^ 24
  pub lawful : IsLawful p.super.md_len (resolved (replaced p.base r))
  pub step : IsStep (ReadsZeros p.super claimed) p.super p.base r p.live command commit

module _ (known : Known) where
  open known use {placed, p, facts}

  pub some_pages : 0 < (fixed_of p.super).cluster_pages
  some_pages = subst (λ (y : Super). 0 < (fixed_of y).cluster_pages) (sym facts.super) placed.some_pages

-- where no repair is left
module _ (known : Known) (unmarked : HasNoMarks known.p.base) where
  open known use {p, facts}

  -- ---- the metadata that there is

  pub base_steady : AreSteady p.super p.base
  base_steady = subst (λ (y : Super). AreSteady y p.base) (sym facts.super)
      (steady_unmarked known.s p.base facts.stored facts.named unmarked)

  pub base_resolved : resolved p.base ≡ p.base
  base_resolved = unmarked_resolved p.base unmarked

  pub base_lawful : IsLawful p.super.md_len p.base
  base_lawful = subst (IsLawful p.super.md_len) base_resolved
      (subst (λ (y : Super). IsLawful y.md_len (resolved p.base)) (sym facts.super) facts.lawful)

  -- with no cluster and no parent that a blob hadn't
  pub lawful_still : (head : ℕ) (new : Meta) → TakesNone p.base head new
      → slots_together p.super.md_len (with_entry p.base head new) ≤ 2 ^ 24
      → IsLawful p.super.md_len (with_entry p.base head new)
  lawful_still head new takes few = lawful_given p.super.md_len p.base head new takes base_lawful few

  -- ---- with the new metadata of one blob

  module _ (head : ℕ) (new : Meta) (one : IsSteady p.super head new) where
    pub all_steady : AreSteady p.super (with_entry p.base head new)
    all_steady = steady_given p.super p.base head new base_steady one

    module _ (r : Replacing) (head_is : r.head ≡ head) (new_is : r.new ≡ Some new) where
      pub base_is : replaced p.base r ≡ with_entry p.base head new
      base_is = replaced_is p.base r new new_is ∙ ap (λ h. with_entry p.base h new) head_is

      pub ready_by : (claimed : List ℕ) (command : Command) (commit : Committing)
          → IsLawful p.super.md_len (with_entry p.base head new)
          → slots_together p.super.md_len (with_entry p.base head new) ≤ 2 ^ 24
          → IsStep (ReadsZeros p.super claimed) p.super p.base r p.live command commit
          → IsReady p claimed command commit new r
      ready_by claimed command commit lawful few step = record {
        steady = subst (λ h. IsSteady p.super h new) (sym head_is) one;
        all_steady = subst (AreSteady p.super) (sym base_is) all_steady;
        few = subst (λ (m : Metas). slots_together p.super.md_len m ≤ 2 ^ 24) (sym base_is) few;
        lawful = subst (λ (m : Metas). IsLawful p.super.md_len (resolved m)) (sym base_is)
            (subst (IsLawful p.super.md_len) (sym (steady_resolved p.super (with_entry p.base head new) all_steady))
            lawful);
        step = step;
      }
