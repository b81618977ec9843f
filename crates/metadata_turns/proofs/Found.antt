-- What is found of the volume that a command names, in the volumes that are shown.
use Rattle.std.proofs.Common.{◌≡◌, ℕ, ◌<◌, ◌^◌, Option, Some, None, false, true, refl, sym, ap, subst, ◌∙◌, arith}
use Rattle.std.specs.Prelude.{IfNone, IfSome, IsSome, IsSomeAnd}
use Rattle.std.specs.Option.{option_map, option_and_then}
use Rattle.std.specs.Ordering.{nat_cmp}
use Rattle.std.specs.FinMap as map
use Rattle.super_block.specs.declared.page.Super.{Super}
use Rattle.super_block.specs.Placed.{IsPlaced}
use Rattle.volume_model.specs.Volumes.{Fixed, Volume, Volumes, head_of}
use Rattle.volume_model.specs.Xattrs.{Xattrs}
use Rattle.volume_model.specs.Steps.{named_head}
use Rattle.volume_model.specs.declared.command.VolumeRef.{VolumeRef}
use Rattle.volume_model.specs.declared.command.Command.{Command}
use Rattle.volume_model.specs.declared.command.Command.TheVariants as c
use Rattle.blob_meta.specs.declared.meta.Meta.{Meta}
use Rattle.blob_meta.specs.Asked.{asked_volume, IsLiveOf, IsOnAttributes, NamesThere, ShowsLive}
use Rattle.blob_meta.specs.Resolving.{resolved}
use Rattle.blob_meta.specs.ShownBy.{ShowsMetas}
use Rattle.blob_meta.specs.Find.{is_meant, IsLeast, IsThere}
use Rattle.blob_meta.proofs.Shown.{meant_there}
use Rattle.store_model.specs.Maps.{Map}
use Rattle.store_model.specs.Shown.{fixed_of}
use Rattle.store_model.specs.StoreState.{StoreState, shown}
use Rattle.metadata_turns.specs.Answering.{IsFound}
use Rattle.running_store.specs.RunningState.{IsRunning}
use Rattle.metadata_turns.proofs.Answered.{live_same}
use Rattle.store_model.proofs.Resolved.{resolved_stored}
use Rattle.running_store.proofs.Showing.{shows_metas}

-- a command names the volume that it asks for
pub named_asked : (f : Fixed) (v : Volumes) (command : Command) (volume : VolumeRef)
    → asked_volume command ≡ Some volume → named_head f v command ≡ head_of f v volume
named_asked f v (c.SetX mine key value) volume is = let e : mine ≡ volume = cc is in ap (λ x. head_of f v x) e
named_asked f v (c.DelX mine key) volume is = let e : mine ≡ volume = cc is in ap (λ x. head_of f v x) e
named_asked f v (c.GetX mine key) volume is = let e : mine ≡ volume = cc is in ap (λ x. head_of f v x) e
named_asked f v (c.Put mine key value) volume is = let e : mine ≡ volume = cc is in ap (λ x. head_of f v x) e
named_asked f v (c.Sync mine) volume is = let e : mine ≡ volume = cc is in ap (λ x. head_of f v x) e
named_asked f v (c.ReadOnly mine) volume is = let e : mine ≡ volume = cc is in ap (λ x. head_of f v x) e
named_asked f v (c.Resize mine slots) volume is = let e : mine ≡ volume = cc is in ap (λ x. head_of f v x) e
named_asked f v _ volume is = absurd (cc is)

-- a command on attributes names a volume
pub asks_volume : (command : Command) → IsOnAttributes command → IsSome (asked_volume command)
asks_volume (c.SetX volume key value) is = refl
asks_volume (c.DelX volume key) is = refl
asks_volume (c.GetX volume key) is = refl
asks_volume (c.Put volume key value) is = refl
asks_volume (c.Sync volume) is = refl
asks_volume (c.ReadOnly volume) is = refl
asks_volume _ is = absurd is

module _ (p : StoreState) (running : IsRunning p) (runs : p.stopped ≡ None) (metas : map.FinMap nat_cmp Meta)
    (resolves : resolved p.base ≡ map.get metas) (live : map.FinMap nat_cmp Xattrs) (live_now : p.live ≡ map.get live)
    (command : Command) (head : Option ℕ) (xattrs : Option Xattrs)
    (found : IsFound metas p.super live command head xattrs) where
  -- the volume's live attributes are those that are found
  pub shows_live : ShowsLive metas p.super xattrs command (fixed_of p.super) (shown p)
  shows_live = record { shows = shows; live_is = at_head ∙ by head refl ∙ sym found.live_is }
    where
      f : Fixed
      f = fixed_of p.super

      shows : ShowsMetas f p.super metas (shown p)
      shows = shows_metas p running runs metas resolves

      at_head : option_map (λ (x : Volume). x.live) (option_and_then (shown p) (named_head f (shown p) command))
          ≡ option_map (λ (x : Volume). x.live) (option_and_then (shown p) head)
      at_head =
          ap (λ o. option_map (λ (x : Volume). x.live) (option_and_then (shown p) o))
          (named_asked f (shown p) command found.volume found.asked ∙ found.meant f (shown p) shows)

      by : (o : Option ℕ) → o ≡ head → option_map (λ (x : Volume). x.live) (option_and_then (shown p) o)
          ≡ option_and_then (λ h. map.get live h) o
      by None is = refl
      by (Some h) is =
          ap (λ (m : Map Xattrs). m h) (live_same running.first p (running.facts.well runs) ∙ live_now)

  -- and there are such exactly where the volume is there
  pub is_live_of : IsLiveOf metas p.super xattrs command
  is_live_of = by head found.there found.not_there found.live_is
    where
      names_it : IsThere metas p.super found.volume → NamesThere metas p.super command
      names_it there =
          subst (λ o. IsSomeAnd o (IsThere metas p.super)) (sym found.asked) there

      named_it : NamesThere metas p.super command → IsThere metas p.super found.volume
      named_it names = subst (λ o. IsSomeAnd o (IsThere metas p.super)) found.asked names

      none_so : ((h : ℕ) → h < 2 ^ 32 → is_meant p.super.super_blob metas found.volume h ≡ false)
          → NamesThere metas p.super command → ⊥
      none_so none names =
          let there = named_it names in
          let e : true ≡ false = sym there.2 ∙ none there.0 there.1 in absurd (cc e)

      placed : IsPlaced p.super
      placed = subst IsPlaced (sym running.facts.super) running.placed

      of_meta : (h : ℕ) (o : Option Meta) → map.get metas h ≡ o → IsSome o
          → is_meant p.super.super_blob metas found.volume h ≡ true → xattrs ≡ map.get live h
          → IsLiveOf metas p.super xattrs command
      of_meta h None there some meant is = absurd (cc some)
      of_meta h (Some m) there some meant is =
          let resolved_there : resolved p.base h ≡ Some m = ap (λ (x : Map Meta). x h) resolves ∙ there in
          let low = (resolved_stored running.store p.base running.facts.stored h m resolved_there).low in
          let few = placed.few_md_pages in
          let super = running.facts.super in
          let mine = (running.facts.well runs).live h m resolved_there in
          subst (λ xs. IsLiveOf metas p.super xs command)
          (sym (is ∙ ap (λ (x : Map Xattrs). x h) (sym live_now) ∙ mine.1))
          (names_it (h, omega (arith, subst (λ (s : Super). h < s.md_len) (sym super) low, few), meant))

      by : (o : Option ℕ) → IfSome o (IsLeast (is_meant p.super.super_blob metas found.volume))
          → IfNone o ((h : ℕ) → h < 2 ^ 32 → is_meant p.super.super_blob metas found.volume h ≡ false)
          → xattrs ≡ option_and_then (λ h. map.get live h) o → IsLiveOf metas p.super xattrs command
      by None there not_there is =
          subst (λ xs. IsLiveOf metas p.super xs command) (sym is) (λ names. none_so not_there names)
      by (Some h) there not_there is =
          of_meta h (map.get metas h) refl
          (meant_there p.super.super_blob metas found.volume h there.passes) there.passes is
