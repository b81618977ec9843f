-- The metadata with one blob's attributes replaced: it is steady still, it is lawful, and has the same clusters.
use Rattle.std.proofs.Common.{◌≡◌, ℕ, ◌+◌, ◌≤◌, [], ◌∷◌, length, length-append, Option, Some, None, refl, sym, ◌∙◌, ap}
use Rattle.std.proofs.Common.{arith, subst, inl, inr}
use Rattle.std.specs.List.{range_with_len, sum_by}
use Rattle.std.specs.Prelude.{codes, true}
use Rattle.std.specs.Option.{option_map, option_map_or, option_and_then}
use Rattle.std.proofs.lemmas.Bool.{cases_eq}
use Rattle.std.proofs.Math.Path.{fun_ext}
use Rattle.super_block.specs.declared.page.Super.{Super}
use Rattle.volume_model.specs.Volumes.{Fixed, Volume, Volumes}
use Rattle.volume_model.specs.Names.{IsName}
use Rattle.volume_model.specs.Xattrs.{Text, Xattrs, name_key, value_of, with_nul, with_value}
use Rattle.volume_model.specs.Refusals.{refusal}
use Rattle.volume_model.specs.Steps.{change, named_head}
use Rattle.volume_model.specs.declared.command.Command.{Command}
use Rattle.volume_model.specs.declared.command.Command.TheVariants as c
use Rattle.volume_model.specs.declared.reply.Reply.TheVariants as r
use Rattle.blob_meta.specs.declared.meta.Meta.{Meta}
use Rattle.blob_meta.specs.Parents.{named_in, slot, parent_of, is_read_only}
use Rattle.blob_meta.specs.Resolving.{slots_together}
use Rattle.store_model.specs.Maps.{Metas, with_entry}
use Rattle.store_model.specs.Places.{IsMapped}
use Rattle.store_model.specs.Asking.{flags_after, IsSyncing}
use Rattle.store_model.specs.Regions.{region_of}
use Rattle.store_model.specs.RunInvariant.{CanBeWritten, IsSteady, AreSteady}
use Rattle.store_model.proofs.FlagsAfter.{clear_after, faultless_after, read_only_stays}
use Rattle.store_model.proofs.WithEntry.{given_all, given_here, given_elsewhere}
use Rattle.store_model.proofs.LawfulGiven.{TakesNone}
use Rattle.store_model.proofs.Synced.{edited_from, edited_here}
use Rattle.store_model.proofs.Writable.{written_with, put_within}

-- ---- what a command syncs can be written

-- a name fits
name_fits : (name : Text) → IsName name → length name_key + length (with_nul name) ≤ 4063
name_fits name named =
    let long = length-append name (0 ∷ []) in
    let most = named.most in
    omega (arith, long, most)

-- the attributes of a volume, as they are read and as they are synced
pub record AreWritable (x : Volume) : Type 0 where
  pub live : CanBeWritten x.live
  pub synced : CanBeWritten x.synced

pub synced_written : (f : Fixed) (v : Volumes) (command : Command) (head : ℕ) (after : Volume)
    → ((x : Volume) → v head ≡ Some x → AreWritable x) → IsSyncing command → refusal f v command ≡ None
    → named_head f v command ≡ Some head → change f v command r.Ok head ≡ Some after → AreWritable after
synced_written f v (c.Put volume key value) head after writable is asked found step =
    let edit = λ (x : Volume). record x { live = with_value x.live key value; synced = with_value x.live key value } in
    let from = edited_from edit (v head) after (sym (edited_here f v _ edit head found) ∙ step) in
    let made : CanBeWritten (with_value from.0.live key value) = written_with from.0.live key value
    (put_within f v volume head from.0 found from.1 key value asked) (writable from.0 from.1).live in
    subst AreWritable (sym from.2) (record { live = made; synced = made })
synced_written f v (c.Sync volume) head after writable is asked found step =
    let edit = λ (x : Volume). record x { synced = x.live } in
    let from = edited_from edit (v head) after (sym (edited_here f v _ edit head found) ∙ step) in
    let can = (writable from.0 from.1).live in
    subst AreWritable (sym from.2) (record { live = can; synced = can })
synced_written f v (c.ReadOnly volume) head after writable is asked found step =
    let edit = λ (x : Volume). record x { synced = x.live; read_only = true } in
    let from = edited_from edit (v head) after (sym (edited_here f v _ edit head found) ∙ step) in
    let can = (writable from.0 from.1).live in
    subst AreWritable (sym from.2) (record { live = can; synced = can })
synced_written f v (c.Rename volume name) head after writable is asked found step =
    let edit = λ (x : Volume). record x {
      live = with_value x.live name_key (with_nul name);
      synced = with_value x.synced name_key (with_nul name);
    } in
    let from = edited_from edit (v head) after (sym (edited_here f v _ edit head found) ∙ step) in
    let can = writable from.0 from.1 in
    subst AreWritable (sym from.2) (record {
      live = written_with from.0.live name_key (with_nul name) (name_fits name is) can.live;
      synced = written_with from.0.synced name_key (with_nul name) (name_fits name is) can.synced;
    })
synced_written f v _ head after writable is asked found step = absurd is

pub new_steady : (s : Super) (command : Command) (head : ℕ) (old new : Meta) (xattrs : Xattrs) → IsSteady s head old
    → new ≡ record old { xattrs = xattrs; flags = flags_after command old.flags } → CanBeWritten xattrs
    → IsSteady s head new
new_steady s command head old new xattrs old_one is can =
    let made : IsSteady s head (record old { xattrs = xattrs; flags = flags_after command old.flags }) =
    record {
      stored = record {
        low = old_one.stored.low;
        id = old_one.stored.id;
        clear = clear_after command old.flags old_one.stored.clear;
        xattrs = can;
        internal = old_one.stored.internal;
        faultless = faultless_after command (region_of s).fixed (region_of s).clusters old old_one.stored.faultless;
      };
      named = old_one.named;
      unmarked = old_one.unmarked;
    } in
    subst (IsSteady s head) (sym is) made

-- ---- the whole map

pub steady_given : (s : Super) (metas : Metas) (head : ℕ) (new : Meta) → AreSteady s metas → IsSteady s head new
    → AreSteady s (with_entry metas head new)
steady_given s metas head new = given_all metas head new (IsSteady s)

module _ (metas : Metas) (command : Command) (head : ℕ) (old new : Meta) (xattrs : Xattrs)
    (there : metas head ≡ Some old)
    (is : new ≡ record old { xattrs = xattrs; flags = flags_after command old.flags }) where
  -- each blob has the map that it had
  same_map : (h : ℕ)
      → option_map (λ (m : Meta). m.map) (with_entry metas head new h) ≡ option_map (λ (m : Meta). m.map) (metas h)
  same_map h = elim (cases_eq h head) [
    | inl e ↦
        ap (λ o. option_map (λ (m : Meta). m.map) o) (given_here metas head new h e) ∙ ap (λ (m : Meta). Some m.map) is
        ∙ ap (λ o. option_map (λ (m : Meta). m.map) o) (sym (ap metas e ∙ there))
    | inr ne ↦ ap (λ o. option_map (λ (m : Meta). m.map) o) (given_elsewhere metas head new h ne)
  ]

  pub record Was (h : ℕ) (m : Meta) : Type 0 where
    pub before : Meta
    pub was : metas h ≡ Some before
    pub map : m.map ≡ before.map
    pub internal : m.internal ≡ before.internal

  pub was_there : (h : ℕ) (m : Meta) → with_entry metas head new h ≡ Some m → Was h m
  was_there h m now = elim (cases_eq h head) [
    | inl e ↦
        let one : m ≡ new = let both = sym now ∙ given_here metas head new h e in cc both in
        let whole : m ≡ record old { xattrs = xattrs; flags = flags_after command old.flags } = one ∙ is in
        record {
          before = old;
          was = ap metas e ∙ there;
          map = ap (λ (x : Meta). x.map) whole;
          internal = ap (λ (x : Meta). x.internal) whole;
        }
    | inr ne ↦ record {
      before = m;
      was = sym (given_elsewhere metas head new h ne) ∙ now;
      map = refl;
      internal = refl;
    }
  ]

  slot_was : (m before : Meta) (i cluster : ℕ) → m.map ≡ before.map → slot m i ≡ Some cluster
      → slot before i ≡ Some cluster
  slot_was m before i cluster map at = sym (rw map refl) ∙ at

  parent_was : (m before : Meta) (p : ℕ) → m.internal ≡ before.internal → parent_of m ≡ Some p
      → parent_of before ≡ Some p
  parent_was m before p internal parent =
      subst (λ xs. option_and_then named_in (value_of xs (codes "SNAP")) ≡ Some p) internal parent

  pub mapped_was : (cluster : ℕ) → IsMapped (with_entry metas head new) cluster → IsMapped metas cluster
  mapped_was cluster x =
      let w = was_there x.head x.meta x.there in
      record {
        head = x.head;
        meta = w.before;
        there = w.was;
        place = x.place;
        in_slot = slot_was x.meta w.before x.place cluster w.map x.in_slot;
      }

  still : (h : ℕ) (m : Meta) → metas h ≡ Some m → (n : Meta) × (with_entry metas head new h ≡ Some n) × (n.map ≡ m.map)
  still h m was = elim (cases_eq h head) [
    | inl e ↦
        let one : old ≡ m = let both = sym there ∙ sym (ap metas e) ∙ was in cc both in (
          new,
          given_here metas head new h e,
          ap (λ (x : Meta). x.map) is ∙ ap (λ (x : Meta). x.map) one,
        )
    | inr ne ↦ (m, given_elsewhere metas head new h ne ∙ was, refl)
  ]

  pub mapped_still : (cluster : ℕ) → IsMapped metas cluster → IsMapped (with_entry metas head new) cluster
  mapped_still cluster x =
      let w = still x.head x.meta x.there in
      record {
        head = x.head;
        meta = w.0;
        there = w.1;
        place = x.place;
        in_slot = slot_was x.meta w.0 x.place cluster (sym w.2) x.in_slot;
      }

  slots_at_same : (h : ℕ) → option_map_or (λ (m : Meta). length m.map) (with_entry metas head new h) 0
      ≡ option_map_or (λ (m : Meta). length m.map) (metas h) 0
  slots_at_same h =
      mapped (with_entry metas head new h) ∙ ap (λ o. option_map_or length o 0) (same_map h) ∙ sym (mapped (metas h))
    where
      mapped : (o : Option Meta)
          → option_map_or (λ (m : Meta). length m.map) o 0 ≡ option_map_or length (option_map (λ (m : Meta). m.map) o) 0
      mapped None = refl
      mapped (Some m) = refl

  -- no cluster and no parent is new
  pub takes_none : TakesNone metas head new
  takes_none = record {
    slots = λ i cluster at.
        (old, there, slot_was new old i cluster (ap (λ (m : Meta). m.map) is) at);
    parent = λ p of. (old, there, parent_was new old p (ap (λ (m : Meta). m.internal) is) of);
    read_only = λ m was on.
        let one : m ≡ old = let both = sym was ∙ there in cc both in
        ap (λ (x : Meta). is_read_only x.flags) is
        ∙ read_only_stays command old.flags (ap (λ (x : Meta). is_read_only x.flags) (sym one) ∙ on);
  }

  pub slots_same : (md_len : ℕ) → slots_together md_len (with_entry metas head new) ≡ slots_together md_len metas
  slots_same md_len = ap (λ f. sum_by f (range_with_len 0 md_len)) (fun_ext slots_at_same)
