-- New metadata that is to be laid on pages.
use Rattle.std.specs.Prelude.{◌≡◌, ◌+◌, ℕ, is_some, length, List}
use Rattle.blob_meta.specs.declared.meta.Meta.{Meta}
use Rattle.blob_meta.specs.Items.{IsItemsOf}
use Rattle.md_chain.specs.Packing.{parts_of, ArePlannable, AreFew}
use Rattle.running_store.specs.declared.effects.Effects.{Effects}
use Rattle.running_store.specs.declared.replacements.Planned.{Planned}
use Rattle.job_begins.specs.Begins.{needed, IsChainLaid}
use Rattle.job_begins.specs.declared.drafts.Draft.{Draft}
use Rattle.job_begins.specs.declared.preparing.Laid.{Laid}

-- The items are those of the metadata, few enough for a chain, and each is short enough for a page.
pub record IsDraft (x : Draft) : Type 0 where
  pub are : IsItemsOf x.new x.items
  pub plannable : ArePlannable x.items
  pub few : AreFew x.items

-- how many pages its chain takes, with the head's where the blob is new
abbrev pub draft_needs : Draft → ℕ
draft_needs x = needed (is_some x.effects.rooms.chain) x.items

-- the draft of this metadata, with these effects
pub record IsDraftOf (head : ℕ) (new : Meta) (effects : Effects) (x : Draft) : Type 0 where
  pub draft : IsDraft x
  pub head_is : x.head ≡ head
  pub new_is : x.new ≡ new
  pub effects_is : x.effects ≡ effects

-- It is laid on its head and on these places behind it.
pub record IsPlannedOn (x : Draft) (fresh : List ℕ) (planned : Planned) : Type 0 where
  pub laid : Laid
  pub laid_on : IsChainLaid x.items x.head fresh laid
  pub count : length fresh + 1 ≡ length (parts_of x.items)
  pub planned_is : planned ≡ record {
    head = x.head;
    new = x.new;
    effects = x.effects;
    chain = laid.chain;
    pages = laid.pages;
  }
