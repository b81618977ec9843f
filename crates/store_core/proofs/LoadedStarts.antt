-- What was loaded is what a store begins with.
use Rattle.std.proofs.Common.{◌≡◌, ◌≢◌, ◌∙◌, ℕ, ◌≤◌, Bool, List, [], Option, Some, None, refl, sym, ap, arith}
use Rattle.std.specs.Option.{option_and_then, option_map}
use Rattle.std.specs.Ordering.{nat_cmp}
use Rattle.std.specs.FinMap as map
use Rattle.page_disk.specs.declared.disk.PageDisk.{Ghosts}
use Rattle.volume_model.specs.Xattrs.{Xattrs}
use Rattle.volume_model.specs.declared.command.Command.{Command}
use Rattle.blob_meta.specs.declared.meta.Meta.{Meta}
use Rattle.blob_meta.specs.Resolving.{mark_of, resolved}
use Rattle.io_freeze.specs.Guards.{GuardsState}
use Rattle.store_model.specs.Maps.{Metas}
use Rattle.store_model.specs.Places.{Unclaimed, UsedClusters, UsedPages}
use Rattle.store_model.specs.Rows.{Row}
use Rattle.store_model.specs.StateLaws.{IsLoadedWith}
use Rattle.store_model.specs.StoreState.{Opens}
use Rattle.store_model.proofs.Resolved.{resolved_of}
use Rattle.running_store.specs.declared.loaded.Loaded.{Loaded}
use Rattle.running_store.specs.Recovered.{base_of, IsLoadedFrom}
use Rattle.running_store.specs.StoreView.{state_of, AreResolved}
use Rattle.store_core.specs.Opening.{AreGuardsAtStart, AreRows, IsLiveAtStart, opened_with}
use Rattle.store_core.proofs.Starts.{rows_unclaimed, rows_wait}

module _ {D : Type 0} (loaded : Loaded D) (from : IsLoadedFrom (base_of loaded.metas loaded.marked) loaded) where
  abbrev read : Metas
  read = base_of loaded.metas loaded.marked

  marked_has : (o : Option Meta) (m : Meta) → option_and_then (λ (x : Meta). option_map (λ _. x) (mark_of x)) o ≡ Some m
      → mark_of m ≢ None
  marked_has None m is none = absurd (cc is)
  marked_has (Some x) m is none = by (mark_of x) refl is
    where
      by : (mark : Option (List ℕ)) → mark_of x ≡ mark → option_map (λ _. x) mark ≡ Some m → ⊥
      by None unmarked gives = cc gives
      by (Some bytes) has gives =
          let one : x ≡ m = cc gives in let bad = sym has ∙ ap mark_of one ∙ none in cc bad

  -- what the device says resolves to what the store has in memory
  pub resolved_at_start : AreResolved loaded.metas loaded.marked
  resolved_at_start = record {
    marks = λ h m is. marked_has (read h) m (ap (λ (f : Metas). f h) from.marks ∙ is);
    resolves = from.resolves;
  }

  none_by : (h : ℕ) → loaded.sup.md_len ≤ h → (o : Option Meta) → read h ≡ o → read h ≡ None
  none_by h past None is = is
  none_by h past (Some m) is = absurd (let low = (from.stored h m is).low in omega (arith, low, past))

  -- no blob's head lies past the metadata pages
  pub none_read_past : (h : ℕ) → loaded.sup.md_len ≤ h → read h ≡ None
  none_read_past h past = none_by h past (read h) refl

  stays_by : (h : ℕ) → loaded.sup.md_len ≤ h → (o : Option Meta) → resolved read h ≡ o → resolved read h ≡ None
  stays_by h past None is = is
  stays_by h past (Some m) is =
      let old = resolved_of read h m is in absurd (let bad = sym (none_read_past h past) ∙ old.there in cc bad)

  -- and so it is of those that stay
  pub none_past : (h : ℕ) → loaded.sup.md_len ≤ h → map.get loaded.metas h ≡ None
  none_past h past =
      ap (λ (f : Metas). f h) (sym from.resolves) ∙ stays_by h past (resolved read h) refl

  module _ (d : Ghosts D) (live : map.FinMap nat_cmp Xattrs) (guards : GuardsState) (rows : List Row)
      (pages clusters : List Bool) (guarded : AreGuardsAtStart read guards) where
    pub is_loaded_with : IsLiveAtStart loaded.metas live → UsedPages loaded.sup.md_len pages (map.get loaded.chains) []
        → UsedClusters loaded.sup clusters read Unclaimed
        → IsLoadedWith loaded.sup (state_of d (opened_with d loaded live guards rows pages clusters))
    is_loaded_with is pages_used clusters_used = record {
      super = refl;
      stored = from.stored;
      named = from.named;
      few = from.few;
      lawful = from.lawful;
      chains = from.chains;
      pages = pages_used;
      clusters = clusters_used;
      live = λ head m some. is head ∙ ap (option_map (λ (x : Meta). x.xattrs))
          (ap (λ (f : Metas). f head) (sym from.resolves) ∙ some);
      no_live = λ head none. is head ∙ ap (option_map (λ (x : Meta). x.xattrs))
          (ap (λ (f : Metas). f head) (sym from.resolves) ∙ none);
      generations = guarded.generations;
    }

    pub it_opens : (script : List (List Command)) → AreRows script rows
        → Opens (state_of d (opened_with d loaded live guards rows pages clusters))
    it_opens script are = record {
      waits = rows_wait script rows are;
      unclaimed = rows_unclaimed script rows are;
      log = refl;
      marks = refl;
      filling = refl;
      fill = are.fill;
      job = refl;
      frozen = guarded.none_frozen;
      stopped = refl;
    }
