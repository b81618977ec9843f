-- The attributes as they are read behind a commit that syncs.
use Rattle.std.proofs.Common.{◌≡◌, ◌≢◌, ℕ, Some, sym, ◌∙◌, ap, inl, inr}
use Rattle.std.specs.Option.{option_map}
use Rattle.std.proofs.lemmas.Bool.{cases_eq}
use Rattle.std.proofs.Math.Path.{fun_ext}
use Rattle.volume_model.specs.Volumes.{Volume, Volumes}
use Rattle.volume_model.specs.Xattrs.{Xattrs}
use Rattle.volume_model.specs.Steps.{change}
use Rattle.volume_model.specs.declared.command.Command.{Command}
use Rattle.volume_model.specs.declared.reply.Reply.TheVariants as r
use Rattle.blob_meta.specs.declared.meta.Meta.{Meta}
use Rattle.store_model.specs.Maps.{with_entry}
use Rattle.store_model.specs.Shown.{fixed_of}
use Rattle.store_model.specs.StoreState.{StoreState, shown}
use Rattle.store_model.specs.Asking.{AsksFor}
use Rattle.store_model.specs.Cases.{live_of}
use Rattle.shown_volumes.proofs.WithEntry.{given_here, given_elsewhere}
use Rattle.store_model.proofs.Synced.{syncs_to, SyncsTo}
use Rattle.store_model.proofs.Moved.{HaveLive, live_shown, NoOtherLive}

module _ (p : StoreState) (have_live : HaveLive p) (no_live : NoOtherLive p)
    (command : Command) (head : ℕ) (new : Meta) (live : Xattrs) (asks : AsksFor p command head new live) where
  abbrev w : Volumes
  w = change (fixed_of p.super) (shown p) command r.Ok

  to : SyncsTo (shown p) w command head asks.after
  to = syncs_to (fixed_of p.super) (shown p) command head asks.after asks.syncing asks.found asks.step

  synced_here : live_of w head ≡ Some live
  synced_here = ap (λ o. option_map (λ (x : Volume). x.live) o) asks.step ∙ ap (λ (xs : Xattrs). Some xs)
      (sym asks.live_is)

  synced_there : (k : ℕ) → k ≢ head → live_of w k ≡ p.live k
  synced_there k ne =
      ap (λ o. option_map (λ (x : Volume). x.live) o) (to.others k ne) ∙ live_shown p have_live no_live k

  pub live_synced : with_entry p.live head live ≡ live_of w
  live_synced = fun_ext (λ k. elim (cases_eq k head) [
    | inl e ↦ given_here p.live head live k e ∙ sym synced_here ∙ sym (ap (live_of w) e)
    | inr ne ↦ given_elsewhere p.live head live k ne ∙ sym (synced_there k ne)
  ])
