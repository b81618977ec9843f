-- The volumes that a running store shows are those of its metadata: what is read of a name and a uuid is on the disk.
use Rattle.std.proofs.Common.{◌≡◌, ℕ, ◌<◌, Option, Some, None, IsSome, refl, sym, ap, subst, arith}
use Rattle.std.specs.Option.{option_map}
use Rattle.std.specs.Ordering.{nat_cmp}
use Rattle.std.specs.FinMap as map
use Rattle.std.proofs.lemmas.Option.{same_Some}
use Rattle.super_block.specs.declared.page.Super.{Super}
use Rattle.super_block.specs.Placed.{IsPlaced}
use Rattle.volume_model.specs.Naming.{AreNamedAlike, IsNamedAlike}
use Rattle.volume_model.specs.Volumes.{Volume}
use Rattle.volume_model.specs.Logs.{replay}
use Rattle.volume_model.proofs.Naming.{after_log, synced_alike}
use Rattle.blob_meta.specs.declared.meta.Meta.{Meta}
use Rattle.blob_meta.specs.Resolving.{resolved}
use Rattle.blob_meta.specs.ShownBy.{ShowsAt, ShowsMetas}
use Rattle.store_model.specs.Maps.{Map}
use Rattle.store_model.specs.Seen.{seen}
use Rattle.store_model.specs.Shown.{fixed_of, volume_of}
use Rattle.store_model.specs.StateLaws.{IsLoadedWith}
use Rattle.store_model.specs.StoreState.{StoreState, shown}
use Rattle.store_model.specs.RunInvariant.{RunsWell}
use Rattle.store_model.proofs.Shows.{or_empty}
use Rattle.store_model.proofs.SlotSums.{slots_shown}
use Rattle.running_store.specs.RunningState.{IsRunning}
use Rattle.store_model.proofs.Resolved.{resolved_stored}

-- what is shown of a blob
abbrev as_volume : StoreState → ℕ → Meta → Volume
as_volume p h m =
    volume_of (fixed_of p.super).cluster_pages p.device.reads (resolved p.base) p.super.md_len (or_empty (p.live h)) h m

-- a store as it is loaded reads what is on the disk
pub loaded_alike : (s : Super) (p : StoreState) → IsLoadedWith s p → AreNamedAlike (shown p)
loaded_alike s p loaded h x is = by (resolved p.base h) refl is
  where
    by : (o : Option Meta) → resolved p.base h ≡ o → option_map (as_volume p h) o ≡ Some x → IsNamedAlike x
    by None there none = absurd (cc none)
    by (Some m) there some = synced_alike x (subst (λ (y : Volume). y.live ≡ y.synced)
        (same_Some (as_volume p h m) x some) (ap or_empty (loaded.live h m there)))

module _ (p : StoreState) (running : IsRunning p) (runs : p.stopped ≡ None) (metas : map.FinMap nat_cmp Meta)
    (resolves : resolved p.base ≡ map.get metas) where
  well : RunsWell running.first p
  well = running.facts.well runs

  placed : IsPlaced p.super
  placed = subst IsPlaced (sym running.facts.super) running.placed

  alike : AreNamedAlike (shown p)
  alike = subst AreNamedAlike (sym well.replayed)
      (subst (λ (s : Super). AreNamedAlike (replay (fixed_of s) running.first (seen p.tells p.log)))
      (sym running.facts.super)
      (after_log (fixed_of running.store) running.first (seen p.tells p.log) running.named running.facts.legal))

  one : (h : ℕ) (o : Option Meta) → resolved p.base h ≡ o → ShowsAt (fixed_of p.super) (option_map (as_volume p h) o) o
  one h None is = tt
  one h (Some m) is =
      let named : IsNamedAlike (as_volume p h m) = alike h (as_volume p h m) (ap (option_map (as_volume p h)) is) in
      record {
        name_told = named.name_told;
        uuid_told = named.uuid_told;
        slots_are = slots_shown (fixed_of p.super) p.device.reads (resolved p.base) placed.some_pages
            (or_empty (p.live h)) h m;
        thin_is = refl;
        read_only_is = refl;
        locked_is = refl;
        parent_is = refl;
      }

  low : (h : ℕ) (o : Option Meta) → resolved p.base h ≡ o → IsSome o → h < p.super.md_len
  low h None is some = absurd (cc some)
  low h (Some m) is some =
      subst (λ (s : Super). h < s.md_len) (sym running.facts.super)
      (resolved_stored running.store p.base running.facts.stored h m is).low

  -- all volumes that are shown show its metadata
  pub shows_metas : ShowsMetas (fixed_of p.super) p.super metas (shown p)
  shows_metas = record {
    super_is = refl;
    some_pages = placed.some_pages;
    few_heads = let few = placed.few_md_pages in omega (arith, few);
    heads_below = λ h some. low h (map.get metas h) (ap (λ (m : Map Meta). m h) resolves) some;
    shown = λ h.
        subst (ShowsAt (fixed_of p.super) (shown p h)) (ap (λ (m : Map Meta). m h) resolves)
        (one h (resolved p.base h) refl);
  }
