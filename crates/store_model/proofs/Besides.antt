-- An image that differs from another beside the metadata region and the clusters alone comes back to what that does.
use Rattle.std.proofs.Common.{◌≡◌, ℕ, ◌+◌, ◌<◌, List, Option, None, Some, refl, sym, ◌∙◌, subst, inl, inr, option_map}
use Rattle.std.proofs.Math.Path.{fun_ext}
use Rattle.page_disk.specs.Disk.{Image}
use Rattle.super_block.specs.declared.page.Super.{Super}
use Rattle.super_block.specs.Placed.{IsPlaced}
use Rattle.volume_model.specs.Volumes.{Fixed, Volumes}
use Rattle.volume_model.specs.Xattrs.{Xattrs}
use Rattle.volume_model.specs.Logs.{stable, IsSettled}
use Rattle.volume_model.specs.declared.reply.Entry.{Entry}
use Rattle.blob_meta.specs.declared.meta.Meta.{Meta}
use Rattle.blob_meta.specs.Resolving.{resolved, IsLawful}
use Rattle.store_model.specs.Maps.{Chains, Map, Metas}
use Rattle.store_model.specs.Recovers.{AgreeAt, HasStore, Recovers, RecoversAt, RecoversFrom}
use Rattle.store_model.specs.Regions.{look_of, region_of}
use Rattle.store_model.specs.Scans.{Says}
use Rattle.store_model.specs.Shown.{fixed_of, shown_by, shows}
use Rattle.store_model.specs.StateLaws.{IsSameBehind}
use Rattle.store_model.specs.Surviving.{CanBeLoaded}
use Rattle.shown_volumes.specs.Shown.{or_empty, volume_of}
use Rattle.store_model.proofs.Contents.{synced}
use Rattle.store_model.proofs.Scanning.{same_region}
use Rattle.store_model.proofs.Shows.{shown_agree}
use Rattle.store_model.proofs.StandsKept.{all_behind}

-- what is shown with each attribute live as it is synced
pub shows_live : (s : Super) (image : Image) (metas : Metas)
    → shows (fixed_of s) image metas
    ≡ shown_by (fixed_of s) image metas (λ head. option_map (λ m. m.xattrs) (metas head))
shows_live s image metas = fun_ext (λ head. at head (metas head))
  where
    at : (head : ℕ) (o : Option Meta)
        → option_map (λ m. volume_of (fixed_of s).cluster_pages image metas s.md_len m.xattrs head m) o
        ≡ option_map (λ m. volume_of (fixed_of s).cluster_pages image metas s.md_len
        (or_empty (option_map (λ (x : Meta). x.xattrs) o)) head m) o
    at head None = refl
    at head (Some m) = refl

-- what is shown is, of what these live attributes show, what survives
pub shows_synced : (f : Fixed) (image : Image) (metas : Metas) (live : Map Xattrs) (head : ℕ)
    → shows f image metas head ≡ synced (shown_by f image metas live head)
shows_synced f image metas live head = at (metas head)
  where
    at : (o : Option Meta) → option_map (λ m. volume_of f.cluster_pages image metas f.md_len m.xattrs head m) o
        ≡ synced (option_map (λ m. volume_of f.cluster_pages image metas f.md_len (or_empty (live head)) head m) o)
    at None = refl
    at (Some m) = refl

module _ (s : Super) (placed : IsPlaced s) (image other : Image) (store : HasStore s other)
    (region : (q : ℕ) → q < s.md_len → other (s.md_start + q) ≡ image (s.md_start + q))
    (behind : IsSameBehind s image other) where
  -- it says the same metadata,
  pub says_same : (metas : Metas) (chains : Chains) → Says (region_of s) metas chains image
      → Says (region_of s) metas chains other
  says_same metas chains says =
      same_region (look_of (region_of s) image) (region_of s) metas chains says (look_of (region_of s) other) region

  -- and shows the same volumes,
  pub shows_same : (metas : Metas) (chains : Chains) → Says (region_of s) metas chains image
      → IsLawful s.md_len (resolved metas)
      → shows (fixed_of s) other (resolved metas) ≡ shows (fixed_of s) image (resolved metas)
  shows_same metas chains says lawful =
      shows_live s other (resolved metas)
      ∙ shown_agree s (resolved metas) lawful.parents image other
      (λ head page cluster m there is _. behind _ (all_behind s placed metas chains image says head page cluster m there
      is))
      (λ head. option_map (λ m. m.xattrs) (resolved metas head))
      ∙ sym (shows_live s image (resolved metas))

  -- so it can be loaded,
  pub loaded_same : CanBeLoaded s image → CanBeLoaded s other
  loaded_same x = record {
    store = store;
    metas = x.metas;
    chains = x.chains;
    says = says_same x.metas x.chains x.says;
    stored = x.stored;
    named = x.named;
    few = x.few;
    lawful = x.lawful;
  }

  module _ (first : Volumes) where
    -- and recovers what that one does.
    pub recovers_same : (log : List Entry) → Recovers s first log image → Recovers s first log other
    recovers_same log x = record {
      store = store;
      metas = x.metas;
      chains = x.chains;
      says = says_same x.metas x.chains x.says;
      few = x.few;
      lawful = x.lawful;
      shown = λ head. subst (λ (v : Volumes). AgreeAt (IsSettled (fixed_of s) first log head) (v head)
          (stable (fixed_of s) first log head)) (sym (shows_same x.metas x.chains x.says x.lawful)) (x.shown head);
    }

    pub recovers_at_same : (log : List Entry) (n : ℕ) → RecoversAt s first log n image → RecoversAt s first log n other
    recovers_at_same log n (inl x) = inl (recovers_same _ x)
    recovers_at_same log n (inr (done, progress, x)) = inr (done, progress, recovers_same _ x)

    pub recovers_from_same : (log : List Entry) (least : ℕ) → RecoversFrom s first log least image
        → RecoversFrom s first log least other
    recovers_from_same log least x = record {
      prefix = x.prefix;
      holds_all = x.holds_all;
      within = x.within;
      recovers = recovers_at_same log x.prefix x.recovers;
    }
