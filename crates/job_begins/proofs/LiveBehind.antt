-- The attributes as they are read behind the commit of a verb that syncs.
use Rattle.std.proofs.Common.{◌≡◌, ℕ, true, false, Some, refl, sym, ap, ◌∙◌}
use Rattle.std.specs.Option.{option_map}
use Rattle.volume_model.specs.Xattrs.{Xattrs, name_key, with_nul, with_value}
use Rattle.volume_model.specs.Volumes.{Fixed, Volume, Volumes}
use Rattle.volume_model.specs.Steps.{change, named_head}
use Rattle.volume_model.specs.declared.command.Command.{Command}
use Rattle.volume_model.specs.declared.command.Command.TheVariants as c
use Rattle.volume_model.specs.declared.reply.Reply.TheVariants as r
use Rattle.blob_meta.specs.declared.meta.Meta.{Meta}
use Rattle.store_model.specs.Shown.{fixed_of}
use Rattle.store_model.specs.StoreState.{StoreState, shown}
use Rattle.store_model.specs.Asking.{AsksFor, IsSyncing}
use Rattle.store_model.proofs.Moved.{live_shown, HaveLive, NoOtherLive}
use Rattle.store_model.proofs.Synced.{edited_from, edited_here}
use Rattle.running_store.specs.Effects.{live_behind, takes_parent}

-- a verb that syncs leaves the parent
pub syncing_stays : (k : Command) → IsSyncing k → takes_parent k ≡ false
syncing_stays (c.Put volume key value) is = refl
syncing_stays (c.Sync volume) is = refl
syncing_stays (c.ReadOnly volume) is = refl
syncing_stays (c.Rename volume name) is = refl
syncing_stays _ is = absurd is

module _ (p : StoreState) (have_live : HaveLive p) (no_live : NoOtherLive p) (command : Command) (head : ℕ) (new : Meta)
    (live : Xattrs) (asks : AsksFor p command head new live) where
  abbrev f : Fixed
  f = fixed_of p.super

  abbrev v : Volumes
  v = shown p

  abbrev after : Volume
  after = asks.after

  -- those that are written are read
  written : (edit : Volume → Volume) → ((x : Volume) → (edit x).synced ≡ (edit x).live)
      → (x : Volume) → after ≡ edit x → Some new.xattrs ≡ Some after.live
  written edit same x is =
      ap (λ (m : Meta). Some m.xattrs) asks.new_is ∙ ap (λ (y : Volume). Some y.synced) is
      ∙ ap (λ xs. Some xs) (same x) ∙ sym (ap (λ (y : Volume). Some y.live) is)

  by : (k : Command) → IsSyncing k → named_head f v k ≡ Some head → change f v k r.Ok head ≡ Some after
      → live_behind k (p.live head) new ≡ Some after.live
  by (c.Put volume key value) is found step =
      let edit = λ (x : Volume).
      record x { live = with_value x.live key value; synced = with_value x.live key value } in
      let from = edited_from edit (v head) after (sym (edited_here f v _ edit head found) ∙ step) in
      written edit (λ x. refl) from.0 from.2
  by (c.Sync volume) is found step =
      let edit = λ (x : Volume). record x { synced = x.live } in
      let from = edited_from edit (v head) after (sym (edited_here f v _ edit head found) ∙ step) in
      written edit (λ x. refl) from.0 from.2
  by (c.ReadOnly volume) is found step =
      let edit = λ (x : Volume). record x { synced = x.live; read_only = true } in
      let from = edited_from edit (v head) after (sym (edited_here f v _ edit head found) ∙ step) in
      written edit (λ x. refl) from.0 from.2
  by (c.Rename volume name) is found step =
      let edit = λ (x : Volume). record x {
        live = with_value x.live name_key (with_nul name);
        synced = with_value x.synced name_key (with_nul name);
      } in
      let from = edited_from edit (v head) after (sym (edited_here f v _ edit head found) ∙ step) in
      ap (λ o. option_map (λ xattrs. with_value xattrs name_key (with_nul name)) o)
      (sym (live_shown p have_live no_live head) ∙ ap (λ o. option_map (λ (x : Volume). x.live) o) from.1)
      ∙ sym (ap (λ (y : Volume). Some y.live) from.2)
  by _ is found step = absurd is

  pub synced_live : live_behind command (p.live head) new ≡ Some live
  synced_live = by command asks.syncing asks.found asks.step ∙ ap (λ xs. Some xs) (sym asks.live_is)
