-- A run that begins with an image that power which failed left of another one.
use Rattle.std.proofs.Common.{◌≡◌, ◌∙◌, List, IsTrue, option_map, sym, ap, subst}
use Rattle.std.proofs.Math.Path.{fun_ext}
use Rattle.std.specs.FinMap as map
use Rattle.page_disk.specs.Disk.{Image}
use Rattle.page_disk.specs.declared.disk.PageDisk.{Ghosts}
use Rattle.super_block.specs.Numbers.{cluster_pages_of, clusters_of, fixed_clusters_of, placed}
use Rattle.super_block.specs.Page.{super_of}
use Rattle.super_block.specs.declared.page.Super.{Super}
use Rattle.volume_model.specs.Volumes.{Fixed, Volumes}
use Rattle.volume_model.specs.Xattrs.{Xattrs}
use Rattle.volume_model.specs.declared.command.Command.{Command}
use Rattle.volume_model.specs.declared.reply.Entry.{Entry}
use Rattle.blob_meta.specs.declared.meta.Meta.{Meta}
use Rattle.blob_meta.specs.Resolving.{resolved}
use Rattle.store_model.specs.Laws.{RecoveryLaws}
use Rattle.store_model.specs.Maps.{Chains, Map, Metas}
use Rattle.store_model.specs.Recovers.{AreSynced, Recovers}
use Rattle.store_model.specs.Regions.{region_of}
use Rattle.store_model.specs.Scans.{Says}
use Rattle.store_model.specs.Shown.{fixed_of, shown_by, shows}
use Rattle.store_model.specs.StoreState.{shown}
use Rattle.store_model.specs.Touches.{read_now}
use Rattle.store_model.proofs.AtStart.{told_reads}
use Rattle.running_store.specs.declared.loaded.Loaded.{Loaded}
use Rattle.running_store.specs.StoreView.{base_of, state_of, StoreView}
use Rattle.unclean_load.specs.Quick.{HasNoHeadBesideMask}
use Rattle.blob_tool.specs.Found.{IsSoundImage}
use Rattle.blob_tool.specs.Runs.{IsLoaded}
use Rattle.store_model.proofs.Besides.{shows_live}

module _ {D : Type 0} (d : Ghosts D) (told : IsTrue d.tells) (s : Super) (first : Volumes) (log : List Entry) (disk : D)
    (pages : d.pages disk ≡ s.device_pages) (sound : IsSoundImage s.device_pages (d.now disk))
    (recovers : Recovers s first log (d.now disk)) (laws : RecoveryLaws) (loaded : Loaded D)
    (script : List (List Command)) (next : StoreView D) (is : IsLoaded d script disk loaded next) where
  abbrev image : Image
  image = d.now disk

  abbrev base : Metas
  base = base_of loaded.metas loaded.marked

  abbrev chains : Chains
  chains = map.get loaded.chains

  -- the super block as the image has it
  abbrev here : Super
  here = super_of (image 0) s.device_pages

  super_here : loaded.sup ≡ here
  super_here = is.found.super told ∙ ap (λ n. super_of (image 0) n) pages

  says : Says (region_of s) base chains image
  unfolding fixed_clusters_of clusters_of placed cluster_pages_of
  says =
      let found : Says (region_of loaded.sup) base chains image =
      is.found.says told (subst (λ (t : Super). HasNoHeadBesideMask t image) (sym super_here) sound.no_head) in
      subst (λ (t : Super). Says (region_of t) base chains image) (super_here ∙ sym recovers.store.same) found

  fixed : fixed_of loaded.sup ≡ fixed_of s
  unfolding cluster_pages_of
  fixed = ap (λ (t : Super). fixed_of t) (super_here ∙ sym recovers.store.same)

  reads : read_now d loaded.disk ≡ image
  reads = told_reads d loaded.disk told ∙ is.found.same.now told

  live : map.get next.live ≡ (λ head. option_map (λ (m : Meta). m.xattrs) (resolved base head))
  live = fun_ext (λ head.
      is.opened.live head
      ∙ ap (λ (metas : Metas). option_map (λ (m : Meta). m.xattrs) (metas head)) (sym is.found.recovered.resolves))

  shown_here : shown_by (fixed_of loaded.sup) (read_now d loaded.disk) (resolved base) (map.get next.live)
      ≡ shows (fixed_of s) image (resolved base)
  shown_here =
      ap (λ (f : Fixed). shown_by f (read_now d loaded.disk) (resolved base) (map.get next.live)) fixed
      ∙ ap (λ (i : Image). shown_by (fixed_of s) i (resolved base) (map.get next.live)) reads
      ∙ ap (λ (l : Map Xattrs). shown_by (fixed_of s) image (resolved base) l) live
      ∙ sym (shows_live s image (resolved base))

  -- the volumes with which it begins are those that the image recovers
  pub begins_as_recovered : AreSynced s first log (shown (state_of d next))
  begins_as_recovered =
      subst (λ (p : StoreView D). AreSynced s first log (shown (state_of d p))) (sym is.opened.at)
      (subst (λ (v : Volumes). AreSynced s first log v) (sym shown_here)
      (laws.loaded s first log image base chains recovers says))
