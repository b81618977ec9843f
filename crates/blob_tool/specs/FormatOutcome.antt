-- What `format` came to, by its status.
use Rattle.std.specs.Prelude.{◌≡◌, ℕ, ◌-◌, List, ◌++◌, Option, Some, None, IsTrue}
use Rattle.page_disk.specs.Disk.{Only, Rose}
use Rattle.page_disk.specs.declared.disk.PageDisk as disk
use Rattle.page_runs.specs.Writing.{IsBetween, SameBut}
use Rattle.super_block.specs.Layout.{layout_of, md_pages_of, plan_fault}
use Rattle.super_block.specs.declared.layout.Layout.{Layout}
use Rattle.super_block.specs.declared.fault.SuperFault.{SuperFault}
use Rattle.volume_model.specs.declared.reply.Df.{Df}
use Rattle.unclean_load.specs.declared.fault.LoadFault.{LoadFault}
use Rattle.unclean_load.specs.declared.fault.LoadFault.TheVariants as loading
use Rattle.blob_report.specs.Text.{space_text}
use Rattle.store_format.specs.NewStore.{md_end_of, IsNewStore, LoadsAsPlanned, Writes}
use Rattle.store_format.specs.SuperBlob.{super_blob_page_of}
use Rattle.store_format.specs.declared.super_blob.StoreName.{StoreName}
use Rattle.streams.specs.Printing.{IsPartOf}
use Rattle.streams.specs.declared.sink.Sink as sink
use Rattle.blob_tool.specs.Untouched.{NothingDone}
use Rattle.blob_tool.specs.declared.format_words.Format.{Format}
use Rattle.blob_tool.specs.declared.status.Status.{Status}
use Rattle.blob_tool.specs.declared.status.Status.TheVariants as status

-- the metadata pages that are used at first: that of the super blob, if the store has a name
abbrev pub used_pages : Option StoreName → ℕ
used_pages None = 0
used_pages (Some named) = 1

-- the clusters and the metadata pages of a new store, and how many of each are free
abbrev pub new_space : Layout → Option StoreName → Df
new_space plan named =
    record {
      free_clusters = plan.clusters - plan.fixed_clusters;
      clusters = plan.clusters;
      free_pages = plan.md_pages - used_pages named;
      pages = plan.md_pages;
    }

-- the line that is printed of a new store
abbrev pub new_store_text : Layout → Option StoreName → List ℕ
new_store_text plan named = space_text (new_space plan named)

-- the layout that is asked for, on a device of so many pages
abbrev pub planned_layout : ℕ → Format → Layout
planned_layout pages format =
    layout_of pages format.cluster_pages (md_pages_of pages format.cluster_pages format.md_pages)

-- why it has no place there
abbrev pub planning_fault : ℕ → Format → Option SuperFault
planning_fault pages format =
    plan_fault pages format.cluster_pages (md_pages_of pages format.cluster_pages format.md_pages)

module _ {D : Type 0} (d : disk.Ghosts D) (before back : D) (format : Format) where
  abbrev plan : Layout
  plan = planned_layout (d.pages before) format

  -- The device has one image, a new store with the planned layout, which is loaded with its super blob alone, or with
  -- no blob; behind the metadata region each page reads as before.
  pub record Formatted : Type 0 where
    pub has_place : planning_fault (d.pages before) format ≡ None
    pub one_image : IsTrue d.tells → Only (d.now back) (d.images back)
    pub store : IsTrue d.tells → IsNewStore plan (super_blob_page_of format.lvol) (d.now back)
    pub loads : IsTrue d.tells → LoadsAsPlanned plan format.lvol (d.now back)
    pub behind : IsTrue d.tells → SameBut (IsBetween 0 (md_end_of plan)) (d.now before) (d.now back)
    pub writes : Writes d plan (super_blob_page_of format.lvol) before back

  module _ {K : Type 0} (k : sink.Ghosts K) (out out_now : K) where
    -- the store is there, and its line is printed
    pub record IsPrintedStore : Type 0 where
      pub formatted : Formatted
      pub printed : IsTrue k.tells → k.written out_now ≡ k.written out ++ new_store_text plan format.lvol

    -- the store is there, and the sink failed
    pub record IsUnprintedStore : Type 0 where
      pub formatted : Formatted
      pub part : IsTrue k.tells → IsPartOf (k.written out) (k.written out_now) (new_store_text plan format.lvol)
      pub cause : Rose (k.faults out) (k.faults out_now)

    -- the layout has no place on the device
    pub record HasNoPlace (fault : LoadFault) : Type 0 where
      pub nothing : NothingDone out out_now before back
      pub why : SuperFault
      pub fault_is : fault ≡ loading.Super why
      pub planning : planning_fault (d.pages before) format ≡ Some why

    -- a write or a flush failed
    pub record IsCutShort (at : ℕ) : Type 0 where
      pub at_is : at ≡ 0
      pub has_place : planning_fault (d.pages before) format ≡ None
      pub cause : Rose (d.write_faults before) (d.write_faults back)
      pub quiet : out_now ≡ out
      pub writes : Writes d plan (super_blob_page_of format.lvol) before back

    -- what each status says
    abbrev pub FormatEnded : Status → Type 0
    FormatEnded status.Good = IsPrintedStore
    FormatEnded status.OutWrite = IsUnprintedStore
    FormatEnded (status.Image fault) = HasNoPlace fault
    FormatEnded (status.Device at) = IsCutShort at
    FormatEnded status.Memory = NothingDone out out_now before back
    FormatEnded _ = ⊥
