-- What a verb that syncs asks for: metadata that can be written, and what each image shows with it.
use Rattle.std.proofs.Common.{◌^◌, ◌≤◌, None, ◌≡◌, Some, refl, subst, sym, ap, ◌∙◌, inr, [], inl}
use Rattle.std.proofs.Common.{ℕ, false}
use Rattle.std.proofs.lemmas.Bool.{cases_eq, false≢true}
use Rattle.store_model.specs.StoreState.{StoreState, live_of, shown}
use Rattle.store_model.specs.RunInvariant.{RunsWell}
use Rattle.store_model.specs.Jobs.{IsStep, ReadsZeros, shown_of}
use Rattle.store_model.specs.Asking.{AsksFor, flags_after, IsSyncing}
use Rattle.store_model.specs.Rows.{IsForMetadata}
use Rattle.store_model.proofs.Known.{Known}
use Rattle.store_model.proofs.Moved.{live_writable}
use Rattle.store_model.specs.Phases.{Replacing, replaced}
use Rattle.store_model.specs.Phases.{Committing}
use Rattle.volume_model.specs.declared.reply.Reply.TheVariants as r_
use Rattle.store_model.specs.Steady.{AreSteady, IsSteady, CanBeWritten}
use Rattle.page_disk.specs.Disk.{Image}
use Rattle.blob_meta.specs.Repairs.{HasNoMarks}
use Rattle.blob_meta.specs.Resolving.{slots_together}
use Rattle.blob_meta.specs.declared.meta.Meta.{Meta}
use Rattle.store_model.proofs.Writable.{AllWritable}
use Rattle.store_model.proofs.StateKept.{May, asks_may}
use Rattle.store_model.specs.Maps.{Metas, with_entry}
use Rattle.volume_model.specs.Volumes.{Volumes, Volume}
use Rattle.store_model.proofs.Meanwhile.{asks_reading, reading}
use Rattle.store_model.proofs.Replaced.{new_steady, slots_same, synced_written, takes_none, AreWritable}
use Rattle.store_model.proofs.Shows.{or_empty}
use Rattle.store_model.proofs.ShowsGiven.{by, shown_is}
use Rattle.std.specs.Option.{option_map}
use Rattle.volume_model.specs.Xattrs.{Xattrs}
use Rattle.volume_model.specs.Steps.{change}
use Rattle.store_model.specs.Shown.{fixed_of}
use Rattle.store_model.proofs.OneReplacement.{
  lawful_still,
  all_steady,
  base_is,
  base_lawful,
  base_steady,
  IsReady,
  ready_by,
}
use Rattle.store_model.proofs.Synced.{alike_synced, syncs_to, shown_synced}
use Rattle.store_model.proofs.EmptySlots.{Anything, leaves_alike, leaves_resolved}
use Rattle.store_model.specs.Copying.{LeavesSlotsEmpty}
use Rattle.store_model.proofs.LiveSynced.{live_synced}
use Rattle.volume_model.specs.declared.command.Command.{Command}
use Rattle.volume_model.specs.declared.command.Command.TheVariants as c

-- what the commit of such metadata at a head makes, behind which these attributes are read
abbrev pub sync_commit : ℕ → Xattrs → Committing
sync_commit head live =
    record { reply = r_.Ok; live = Some (record { head = head; xattrs = Some live }); renews = [] }

syncs_metadata : (command : Command) → IsSyncing command → IsForMetadata command
syncs_metadata (c.Put volume key value) is = tt
syncs_metadata (c.Sync volume) is = tt
syncs_metadata (c.ReadOnly volume) is = tt
syncs_metadata (c.Rename volume name) is = tt
syncs_metadata _ is = absurd is

module _ (known : Known) (unmarked : HasNoMarks known.p.base) where
  open known use {first, p, facts}

  module _ (runs : p.stopped ≡ None) (command : Command) (head : ℕ) (new : Meta) (live : Xattrs)
      (asks : AsksFor p command head new live) (r : Replacing) (head_is : r.head ≡ head) (new_is : r.new ≡ Some new)
      (there : r.makes ≡ false) where
    well : RunsWell first p
    well = facts.well runs

    abbrev commit : Committing
    commit = sync_commit head live

    -- the attributes of the blob, whatever a device holds
    were_writable : (image : Image) (x : Volume) → shown (reading p image) head ≡ Some x → AreWritable x
    were_writable image x is =
        let now = reading p image in
        let was : Volume = by now (base_steady known unmarked) p.base (or_empty (p.live head)) head asks.old in
        let same : was ≡ x =
        let both = sym (shown_is now (base_steady known unmarked) head
        ∙ ap (λ o. option_map (by now (base_steady known unmarked) p.base (or_empty (p.live head)) head) o) asks.there)
        ∙ is in cc both in
        record {
          live = live_writable now well.live head x is;
          synced = subst (λ (y : Volume). CanBeWritten y.synced) same
              (base_steady known unmarked head asks.old asks.there).stored.xattrs;
        }

    one_steady : IsSteady p.super head new
    one_steady = new_steady p.super command head asks.old new asks.after.synced
        (base_steady known unmarked head asks.old asks.there)
        asks.new_is (synced_written (fixed_of p.super) (shown p) command head asks.after
        (were_writable p.device.reads) asks.syncing asks.asked asks.found asks.step).synced

    base_now : replaced p.base r ≡ with_entry p.base head new
    base_now = base_is known unmarked head new one_steady r head_is new_is

    few : slots_together p.super.md_len (with_entry p.base head new) ≤ 2 ^ 24
    few = subst (λ n. n ≤ 2 ^ 24)
        (sym (slots_same p.base command head asks.old new asks.after.synced asks.there asks.new_is p.super.md_len))
        (base_lawful known unmarked).few

    -- ---- what every image shows

    module _ (image : Image) where
      abbrev here : StoreState
      here = reading p image

      abbrev w : Volumes
      w = change (fixed_of p.super) (shown here) command r_.Ok

      asks_here : AsksFor here command head new live
      asks_here = asks_reading p image command head new live asks

      may : May (fixed_of p.super) (shown here) command
      may = asks_may here command head new live asks_here

      shows_new : shown_of p.super (replaced p.base r) (live_of w) image ≡ w
      shows_new =
          ap (λ (m : Metas). shown_of p.super m (live_of w) image) base_now
          ∙ shown_synced p.super here refl (base_steady known unmarked) command head new live asks_here
          (all_steady known unmarked head new one_steady)

      writable_new : AllWritable w
      writable_new h v is = elim (cases_eq h head) [
        | inl e ↦
            let same : asks_here.after ≡ v = let both = sym asks_here.step ∙ ap w (sym e) ∙ is in cc both in
            let written = synced_written (fixed_of p.super) (shown here) command head asks_here.after
            (were_writable image) asks_here.syncing asks_here.asked asks_here.found asks_here.step in
            subst (λ (x : Volume). CanBeWritten x.live) same written.live
        | inr ne ↦
            let to = syncs_to (fixed_of p.super)
            (shown here) command head asks_here.after asks_here.syncing asks_here.found asks_here.step in
            live_writable here well.live h v (sym (to.others h ne) ∙ is)
      ]

    step : IsStep (ReadsZeros p.super []) p.super p.base r p.live command commit
    step = record {
      metadata = syncs_metadata command asks.syncing;
      done = tt;
      allowed = λ image. (may image).done;
      may_fail = λ image. (may image).fail;
      shows = λ image holds. shows_new image;
      lives = λ image. sym (live_synced (here image) well.live well.no_live command head new live (asks_here image));
      writable = writable_new;
      renews = tt;
      numbers = λ makes. absurd (false≢true (sym there ∙ makes));
      leaves = λ h _.
          leaves_resolved p.super p.base (replaced p.base r) Anything h (base_steady known unmarked)
          (subst (AreSteady p.super) (sym base_now) (all_steady known unmarked head new one_steady))
          (subst (λ (m : Metas). LeavesSlotsEmpty p.super p.base m Anything h) (sym base_now)
          (leaves_alike p.super p.base (with_entry p.base head new)
          (alike_synced p.base head asks.old new asks.after.synced (flags_after command asks.old.flags)
          asks.there asks.new_is) h));
    }

    pub sync_ready : IsReady p [] command commit new r
    sync_ready = ready_by known unmarked head new one_steady r head_is new_is [] command commit
        (lawful_still known unmarked head new
        (takes_none p.base command head asks.old new asks.after.synced asks.there asks.new_is) few)
        few step
