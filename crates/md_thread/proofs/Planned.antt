-- What a store is as a plan finds it, and which commands have no plan.
use Rattle.std.proofs.Common.{◌≡◌, ℕ, Bool, List, Option, refl, inl, inr}
use Rattle.page_disk.specs.declared.disk.PageDisk.{Ghosts}
use Rattle.volume_model.specs.Xattrs.{Text}
use Rattle.volume_model.specs.declared.command.VolumeRef.{VolumeRef}
use Rattle.volume_model.specs.declared.command.Command.{Command}
use Rattle.volume_model.specs.declared.command.Command.TheVariants as c
use Rattle.store_model.specs.Rows.{IsForMetadata}
use Rattle.metadata_turns.specs.Answering.{IsAnswerable}
use Rattle.running_store.specs.RunningState.{IsRunning}
use Rattle.store_core.specs.StoreInvariant.{StoreInvariant}
use Rattle.running_store.specs.StoreView.{WithOpening, state_of}
use Rattle.lvol_store.specs.FillPlans.{IsFill}

-- a store has what every state of a run has
pub is_running : {D : Type 0} (d : Ghosts D) (b : WithOpening D) → StoreInvariant d b → IsRunning (state_of d b.at)
is_running d b kept =
    record {
      store = b.opening.super;
      first = _;
      script = _;
      placed = kept.placed;
      named = kept.named;
      facts = kept.facts;
    }

-- what is for the metadata thread, and has no job, is answered in memory
pub answerable : (command : Command) → IsForMetadata command → ¬ IsFill command
    → ((name : Text) (slots : ℕ) (thick : Bool) (uuid : Option (List ℕ)) → command ≡ c.Create name slots thick uuid → ⊥)
    → ((volume : VolumeRef) (key value : Text) → command ≡ c.Put volume key value → ⊥)
    → ((volume : VolumeRef) → command ≡ c.Sync volume → ⊥)
    → ((volume : VolumeRef) → command ≡ c.ReadOnly volume → ⊥)
    → ((volume : VolumeRef) (slots : ℕ) → command ≡ c.Resize volume slots → ⊥)
    → ((volume : VolumeRef) (name : Text) → command ≡ c.Clone volume name → ⊥)
    → ((volume : VolumeRef) (name : Text) → command ≡ c.Rename volume name → ⊥)
    → ((volume : VolumeRef) (name : Text) → command ≡ c.Snapshot volume name → ⊥)
    → ((volume : VolumeRef) → command ≡ c.Delete volume → ⊥) → IsAnswerable command
answerable (c.SetX volume key value) is fill create put sync read_only resize clone rename snapshot delete = inl
    (tt, tt)
answerable (c.DelX volume key) is fill create put sync read_only resize clone rename snapshot delete = inl (tt, tt)
answerable (c.GetX volume key) is fill create put sync read_only resize clone rename snapshot delete = inl (tt, tt)
answerable (c.Info volume) is fill create put sync read_only resize clone rename snapshot delete = inr tt
answerable c.List is fill create put sync read_only resize clone rename snapshot delete = inr tt
answerable c.Df is fill create put sync read_only resize clone rename snapshot delete = inr tt
answerable (c.Create name slots thick uuid) is fill create put sync read_only resize clone rename snapshot delete =
    absurd (create name slots thick uuid refl)
answerable (c.Put volume key value) is fill create put sync read_only resize clone rename snapshot delete =
    absurd (put volume key value refl)
answerable (c.Sync volume) is fill create put sync read_only resize clone rename snapshot delete =
    absurd (sync volume refl)
answerable (c.ReadOnly volume) is fill create put sync read_only resize clone rename snapshot delete =
    absurd (read_only volume refl)
answerable (c.Resize volume slots) is fill create put sync read_only resize clone rename snapshot delete =
    absurd (resize volume slots refl)
answerable (c.Clone volume name) is fill create put sync read_only resize clone rename snapshot delete =
    absurd (clone volume name refl)
answerable (c.Rename volume name) is fill create put sync read_only resize clone rename snapshot delete =
    absurd (rename volume name refl)
answerable (c.Snapshot volume name) is fill create put sync read_only resize clone rename snapshot delete =
    absurd (snapshot volume name refl)
answerable (c.Delete volume) is fill create put sync read_only resize clone rename snapshot delete =
    absurd (delete volume refl)
answerable (c.Inflate volume) is fill create put sync read_only resize clone rename snapshot delete =
    absurd (fill tt)
answerable (c.Decouple volume) is fill create put sync read_only resize clone rename snapshot delete =
    absurd (fill tt)
answerable _ is fill create put sync read_only resize clone rename snapshot delete = absurd is
