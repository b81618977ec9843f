-- The blob whose attributes a command syncs, in the volumes and in the metadata.
use Rattle.std.proofs.Common.{◌≡◌, ◌≢◌, ℕ, suc, ◌*◌, List, length, map, Option, Some, None, refl, sym, ◌∙◌, ap, subst}
use Rattle.std.proofs.Common.{inl, inr, Bool}
use Rattle.std.specs.List.{range_with_len}
use Rattle.std.specs.Option.{option_map}
use Rattle.std.proofs.lemmas.Bool.{cases_eq, eq-eqb, ne_eqb}
use Rattle.std.proofs.Math.Path.{fun_ext}
use Rattle.page_disk.specs.Disk.{Image}
use Rattle.super_block.specs.declared.page.Super.{Super}
use Rattle.super_block.specs.Numbers.{cluster_pages_of}
use Rattle.volume_model.specs.Volumes.{Fixed, Volume, Volumes}
use Rattle.volume_model.specs.Xattrs.{Xattrs, name_key, with_nul, with_value}
use Rattle.volume_model.specs.Steps.{change, edited_at, named_head}
use Rattle.volume_model.specs.declared.command.Command.{Command}
use Rattle.volume_model.specs.declared.command.Command.TheVariants as c
use Rattle.volume_model.specs.declared.reply.Reply.TheVariants as r
use Rattle.blob_meta.specs.declared.meta.Flags.{Flags}
use Rattle.blob_meta.specs.declared.meta.Meta.{Meta}
use Rattle.blob_meta.specs.Faults.{is_thin}
use Rattle.blob_meta.specs.Parents.{is_locked, is_read_only}
use Rattle.store_model.specs.Maps.{Metas, with_entry}
use Rattle.store_model.specs.Shown.{content, fixed_of, shown_by, volume_of}
use Rattle.blob_meta.specs.Resolving.{resolved}
use Rattle.store_model.specs.StoreState.{StoreState, shown}
use Rattle.store_model.specs.Jobs.{shown_of}
use Rattle.store_model.specs.Asking.{AsksFor, flags_after, IsSyncing}
use Rattle.store_model.specs.Cases.{live_of}
use Rattle.store_model.specs.Steady.{AreSteady}
use Rattle.store_model.proofs.FlagsAfter.{locked_after, read_only_after, read_only_flags, thin_after}
use Rattle.store_model.proofs.WithEntry.{given_here, given_elsewhere}
use Rattle.store_model.proofs.SameMaps.{IsPlacedAlike, content_alike}
use Rattle.store_model.proofs.Resolved.{steady_resolved}
use Rattle.store_model.proofs.Shows.{or_empty}

module _ (f : Fixed) (v : Volumes) (o : Option ℕ) (edit : Volume → Volume) (head : ℕ) (is : o ≡ Some head) where
  pub edited_here : edited_at f v o edit head ≡ option_map edit (v head)
  edited_here = rw (is, eq-eqb head head refl) refl

  pub edited_there : (k : ℕ) → k ≢ head → edited_at f v o edit k ≡ v k
  edited_there k ne = rw (is, ne_eqb k head ne) refl

-- the volume, and what of it is another afterwards
pub record SyncsTo (v w : Volumes) (command : Command) (head : ℕ) (after : Volume) : Type 0 where
  pub before : Volume
  pub was : v head ≡ Some before
  pub is : after ≡ record before {
    live = after.live;
    synced = after.synced;
    read_only = read_only_after command before.read_only;
  }
  pub others : (k : ℕ) → k ≢ head → w k ≡ v k

-- what a volume was before its edit
pub edited_from : (edit : Volume → Volume) (o : Option Volume) (after : Volume) → option_map edit o ≡ Some after
    → (before : Volume) × (o ≡ Some before) × (after ≡ edit before)
edited_from edit None after is = absurd (cc is)
edited_from edit (Some x) after is = (x, refl, cc is)

-- the edit of a volume that makes these attributes live, and syncs these
abbrev syncing_edit : Command → (Volume → Xattrs) → (Volume → Xattrs) → Volume → Volume
syncing_edit command live synced x =
    record x { live = live x; synced = synced x; read_only = read_only_after command x.read_only }

syncs_by : (f : Fixed) (v w : Volumes) (command : Command) (o : Option ℕ) (live synced : Volume → Xattrs) (head : ℕ)
    (after : Volume) → o ≡ Some head → w ≡ edited_at f v o (syncing_edit command live synced)
    → w head ≡ Some after → SyncsTo v w command head after
syncs_by f v w command o live synced head after found w_is step =
    let edit = syncing_edit command live synced in
    let from = edited_from edit (v head) after
    (sym (edited_here f v o edit head found) ∙ sym (ap (λ (u : Volumes). u head) w_is) ∙ step) in
    record {
      before = from.0;
      was = from.1;
      is = from.2
          ∙ ap (λ (x : Volume). record from.0 {
            live = x.live;
            synced = x.synced;
            read_only = read_only_after command from.0.read_only;
          }) (sym from.2);
      others = λ k ne. ap (λ (u : Volumes). u k) w_is ∙ edited_there f v o edit head found k ne;
    }

pub syncs_to : (f : Fixed) (v : Volumes) (command : Command) (head : ℕ) (after : Volume) → IsSyncing command
    → named_head f v command ≡ Some head → change f v command r.Ok head ≡ Some after
    → SyncsTo v (change f v command r.Ok) command head after
syncs_to f v (c.Put volume key value) head after is found step =
    syncs_by f v _ (c.Put volume key value) _ (λ x. with_value x.live key value) (λ x. with_value x.live key value)
    head after found refl step
syncs_to f v (c.Sync volume) head after is found step =
    syncs_by f v _ (c.Sync volume) _ (λ x. x.live) (λ x. x.live) head after found (fun_ext (λ k. same k)) step
  where
    same : (k : ℕ) → change f v (c.Sync volume) r.Ok k
        ≡ edited_at f v (named_head f v (c.Sync volume)) (syncing_edit (c.Sync volume) (λ x. x.live) (λ x. x.live)) k
    same k = refl
syncs_to f v (c.ReadOnly volume) head after is found step =
    syncs_by f v _ (c.ReadOnly volume) _ (λ x. x.live) (λ x. x.live) head after found (fun_ext (λ k. same k)) step
  where
    same : (k : ℕ) → change f v (c.ReadOnly volume) r.Ok k
        ≡ edited_at f v (named_head f v (c.ReadOnly volume))
        (syncing_edit (c.ReadOnly volume) (λ x. x.live) (λ x. x.live)) k
    same k = refl
syncs_to f v (c.Rename volume name) head after is found step =
    syncs_by f v _ (c.Rename volume name) _ (λ x. with_value x.live name_key (with_nul name))
    (λ x. with_value x.synced name_key (with_nul name)) head after found refl step
syncs_to f v _ head after is found step = absurd is

-- of what a blob that syncs shows, its attributes and its flags alone are others
module _ (k : ℕ) (image : Image) (metas others : Metas) (alike : (h : ℕ) → IsPlacedAlike (others h) (metas h))
    (md_len : ℕ) where
  pages_alike : (h : ℕ) → content k image others (suc md_len) h ≡ content k image metas (suc md_len) h
  pages_alike h = fun_ext (λ page. content_alike k image metas others alike (suc md_len) h page)

  -- with these attributes and flags
  pub volume_alike : (live was : Xattrs) (h : ℕ) (m : Meta) (xattrs : Xattrs) (flags : Flags)
      → volume_of k image others md_len live h (record m { xattrs = xattrs; flags = flags })
      ≡ record (volume_of k image metas md_len was h m) {
        live = live;
        synced = xattrs;
        thin = is_thin flags;
        read_only = is_read_only flags;
        locked = is_locked flags;
      }
  volume_alike live was h m xattrs flags =
      ap (λ (f : ℕ → List ℕ). record (volume_of k image metas md_len was h m) {
        pages = map f (range_with_len 0 (k * length m.map));
        live = live;
        synced = xattrs;
        thin = is_thin flags;
        read_only = is_read_only flags;
        locked = is_locked flags;
      }) (pages_alike h)

-- metadata that differs in attributes and flags alone
pub alike_synced : (metas : Metas) (head : ℕ) (old new : Meta) (xattrs : Xattrs) (flags : Flags)
    → metas head ≡ Some old → new ≡ record old { xattrs = xattrs; flags = flags } → (h : ℕ)
    → IsPlacedAlike (with_entry metas head new h) (metas h)
alike_synced metas head old new xattrs flags there is h = elim (cases_eq h head) [
  | inl e ↦ rw (given_here metas head new h e, ap metas e ∙ there, is) (refl, refl)
  | inr ne ↦ rw (given_elsewhere metas head new h ne) (itself (metas h))
]
  where
    itself : (o : Option Meta) → IsPlacedAlike o o
    itself None = tt
    itself (Some m) = (refl, refl)

module _ (s : Super) (p : StoreState) (super : p.super ≡ s) (steady : AreSteady s p.base) (command : Command)
    (head : ℕ) (new : Meta) (live : Xattrs) (asks : AsksFor p command head new live)
    (new_steady : AreSteady s (with_entry p.base head new)) where
  abbrev k : ℕ
  k = cluster_pages_of s

  abbrev w : Volumes
  w = change (fixed_of p.super) (shown p) command r.Ok

  to : SyncsTo (shown p) w command head asks.after
  to = syncs_to (fixed_of p.super) (shown p) command head asks.after asks.syncing asks.found asks.step

  -- a blob as a volume, over this metadata
  abbrev by : Metas → Xattrs → ℕ → Meta → Volume
  by metas live h m = volume_of k p.device.reads metas s.md_len live h m

  -- the flags that the blob gets
  abbrev flags : Flags
  flags = flags_after command asks.old.flags

  alike : (h : ℕ) → IsPlacedAlike (with_entry p.base head new h) (p.base h)
  alike = alike_synced p.base head asks.old new asks.after.synced flags asks.there asks.new_is

  shown_is : (h : ℕ) → shown p h ≡ option_map (by p.base (or_empty (p.live h)) h) (p.base h)
  shown_is h =
      ap (λ (x : Super). shown_by (fixed_of x) p.device.reads (resolved p.base) p.live h) super
      ∙ ap (λ (m : Metas). shown_by (fixed_of s) p.device.reads m p.live h) (steady_resolved s p.base steady)

  -- the volume before
  abbrev was_shown : Volume
  was_shown = by p.base (or_empty (p.live head)) head asks.old

  here : Some (by (with_entry p.base head new) asks.after.live head new) ≡ w head
  here =
      let was : Some to.before ≡ Some was_shown =
      sym to.was ∙ shown_is head
      ∙ ap (λ o. option_map (by p.base (or_empty (p.live head)) head) o) asks.there in
      let x : to.before ≡ was_shown = let e = was in cc e in
      ap (λ (m : Meta). Some (by (with_entry p.base head new) asks.after.live head m)) asks.new_is
      ∙ ap (λ (v : Volume). Some v) (volume_alike k p.device.reads p.base (with_entry p.base head new) alike s.md_len
      asks.after.live (or_empty (p.live head)) head asks.old asks.after.synced flags)
      ∙ ap (λ (b : Bool). Some (record was_shown {
        live = asks.after.live;
        synced = asks.after.synced;
        thin = b;
        read_only = is_read_only flags;
        locked = is_locked flags;
      })) (thin_after command asks.old.flags)
      ∙ ap (λ (b : Bool). Some (record was_shown {
        live = asks.after.live;
        synced = asks.after.synced;
        read_only = b;
        locked = is_locked flags;
      })) (read_only_flags command asks.old.flags)
      ∙ ap (λ (b : Bool). Some (record was_shown {
        live = asks.after.live;
        synced = asks.after.synced;
        read_only = read_only_after command was_shown.read_only;
        locked = b;
      })) (locked_after command asks.old.flags)
      ∙ ap (λ (y : Volume). Some (record y {
        live = asks.after.live;
        synced = asks.after.synced;
        read_only = read_only_after command y.read_only;
      })) (sym x)
      ∙ ap (λ (y : Volume). Some y) (sym to.is) ∙ sym asks.step

  elsewhere : (h : ℕ) → h ≢ head → (o : Option Meta) → p.base h ≡ o
      → option_map (by (with_entry p.base head new) (or_empty (live_of w h)) h) o ≡ w h
  elsewhere h ne None is = sym (to.others h ne ∙ shown_is h ∙ ap (λ o. option_map (by p.base (or_empty (p.live h)) h) o)
      is)
  elsewhere h ne (Some m) is =
      let shows : w h ≡ Some (by p.base (or_empty (p.live h)) h m) =
      to.others h ne ∙ shown_is h ∙ ap (λ o. option_map (by p.base (or_empty (p.live h)) h) o) is in
      let live : or_empty (live_of w h) ≡ or_empty (p.live h) =
      ap (λ o. or_empty (option_map (λ (y : Volume). y.live) o)) shows in
      ap (λ (xs : Xattrs). Some (by (with_entry p.base head new) xs h m)) live
      ∙ ap (λ (v : Volume). Some v) (volume_alike k p.device.reads p.base (with_entry p.base head new) alike s.md_len
      (or_empty (p.live h)) (or_empty (p.live h)) h m m.xattrs m.flags)
      ∙ sym shows

  -- once the head is written, what is shown is the step's
  pub shown_synced : shown_of s (with_entry p.base head new) (live_of w) p.device.reads ≡ w
  shown_synced = fun_ext (λ h. ap (λ (m : Metas). shown_by (fixed_of s) p.device.reads m (live_of w) h)
      (steady_resolved s (with_entry p.base head new) new_steady) ∙ at h)
    where
      at : (h : ℕ)
          → option_map (by (with_entry p.base head new) (or_empty (live_of w h)) h) (with_entry p.base head new h)
          ≡ w h
      at h = elim (cases_eq h head) [
        | inl e ↦
            ap (λ o. option_map (by (with_entry p.base head new) (or_empty (live_of w h)) h) o)
            (given_here p.base head new h e)
            ∙ subst (λ n. Some (by (with_entry p.base head new) (or_empty (live_of w n)) n new) ≡ w n) (sym e)
            (ap (λ (xs : Xattrs). Some (by (with_entry p.base head new) xs head new))
            (ap (λ o. or_empty (option_map (λ (y : Volume). y.live) o)) asks.step) ∙ here)
        | inr ne ↦
            ap (λ o. option_map (by (with_entry p.base head new) (or_empty (live_of w h)) h) o)
            (given_elsewhere p.base head new h ne)
            ∙ elsewhere h ne (p.base h) refl
      ]
