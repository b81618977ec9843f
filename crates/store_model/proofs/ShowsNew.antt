-- What is shown with a new blob: one volume more, of zeros.
use Rattle.std.proofs.Common.{
  ◌≡◌,
  ◌≢◌,
  ℕ,
  suc,
  ◌+◌,
  ◌*◌,
  ◌/◌,
  ◌%◌,
  Bool,
  true,
  false,
  not,
  List,
  length,
  map,
  Option,
  Some,
  None,
}
use Rattle.std.proofs.Common.{refl, sym, ap, ◌∙◌, mul_comm}
use Rattle.std.specs.Prelude.{replicate}
use Rattle.std.specs.List.{range_with_len}
use Rattle.std.specs.Option.{option_map}
use Rattle.std.proofs.lemmas.Bool.{eq-eqb, ne_eqb}
use Rattle.std.proofs.lemmas.List.{length-replicate}
use Rattle.page_disk.specs.Disk.{Image}
use Rattle.volume_model.specs.Volumes.{Fixed, Page, two_xattrs, Volume, Volumes, zero_page, zero_slots}
use Rattle.volume_model.specs.Xattrs.{Text, Xattrs}
use Rattle.volume_model.specs.Steps.{change, new_volume}
use Rattle.volume_model.specs.declared.command.Command.TheVariants as c
use Rattle.volume_model.specs.declared.reply.Reply.TheVariants as r
use Rattle.blob_meta.specs.declared.meta.Meta.{Meta}
use Rattle.blob_meta.specs.Faults.{is_thin}
use Rattle.blob_meta.specs.Jobs.{new_meta}
use Rattle.blob_meta.specs.Resolving.{IsLawful}
use Rattle.store_model.specs.Maps.{Metas, with_entry}
use Rattle.store_model.specs.Shown.{content, fixed_of, volume_of}
use Rattle.store_model.specs.StoreState.{live_of, shown, StoreState}
use Rattle.store_model.specs.Jobs.{shown_of}
use Rattle.store_model.specs.Steady.{AreSteady}
use Rattle.store_model.proofs.NewBlob.{empty_slot}
use Rattle.shown_volumes.proofs.Ranges.{all_one}
use Rattle.store_model.proofs.Shows.{or_empty}
use Rattle.store_model.proofs.ShowsGiven.{by, childless_given, none_childless, shown_given}
use Rattle.md_chain.specs.Chain.{is_among}
use Rattle.store_model.proofs.ZeroedBlob.{volume_zeroed, IsZeroed}
use Rattle.shown_volumes.proofs.WithEntry.{given_here, given_elsewhere}

-- ---- its volume

module _ (f : Fixed) (v : Volumes) (image : Image) (others : Metas) (head : ℕ) (name : Text) (slots : ℕ) (thick : Bool)
    (uuid : Option (List ℕ)) (xattrs : Xattrs) (are : two_xattrs f v name uuid ≡ xattrs)
    (there : others head ≡ Some (new_meta head xattrs thick slots)) where
  abbrev k : ℕ
  k = f.cluster_pages

  abbrev new : Meta
  new = new_meta head xattrs thick slots

  -- it has no cluster and no parent
  page_zero : (times q : ℕ) → content k image others (suc times) head q ≡ zero_page
  page_zero times q = rw (there, empty_slot slots (q / k)) refl

  pages_zero : map (content k image others (suc f.md_len) head) (range_with_len 0 (k * length new.map))
      ≡ zero_slots f slots
  pages_zero =
      all_one (content k image others (suc f.md_len) head) zero_page 0 (k * length new.map)
      (λ q le. page_zero f.md_len q)
      ∙ ap (λ n. replicate (k * n) zero_page) (length-replicate slots None)
      ∙ ap (λ n. replicate n zero_page) (mul_comm k slots)

  thin_by : (b : Bool) → is_thin (new_meta head xattrs b slots).flags ≡ not b
  thin_by true = refl
  thin_by false = refl

  pub volume_new : volume_of k image others f.md_len xattrs head new
      ≡ new_volume f v name uuid (zero_slots f slots) (not thick) false None
  volume_new =
      ap (λ (pages : List Page). record (volume_of k image others f.md_len xattrs head new) { pages = pages })
      pages_zero
      ∙ ap (λ (thin : Bool). record {
        pages = zero_slots f slots;
        live = xattrs;
        synced = xattrs;
        thin = thin;
        read_only = false;
        locked = false;
        parent = None;
      }) (thin_by thick)
      ∙ ap (λ (xs : Xattrs). record {
        pages = zero_slots f slots;
        live = xs;
        synced = xs;
        thin = not thick;
        read_only = false;
        locked = false;
        parent = None;
      }) (sym are)

-- ---- all volumes

module _ (p : StoreState) (steady : AreSteady p.super p.base) (lawful : IsLawful p.super.md_len p.base) (head : ℕ)
    (none : p.base head ≡ None) (name : Text) (slots : ℕ) (thick : Bool) (uuid : Option (List ℕ)) (xattrs : Xattrs)
    (are : two_xattrs (fixed_of p.super) (shown p) name uuid ≡ xattrs) (later : Meta)
    (new_steady : AreSteady p.super (with_entry p.base head later)) where
  abbrev f : Fixed
  f = fixed_of p.super

  abbrev made : Meta
  made = new_meta head xattrs thick slots

  abbrev bare : Metas
  bare = with_entry p.base head made

  abbrev all : Metas
  all = with_entry p.base head later

  abbrev pub w : Volumes
  w = change f (shown p) (c.Create name slots thick uuid) (r.Made head)

  w_here : w head ≡ Some (new_volume f (shown p) name uuid (zero_slots f slots) (not thick) false None)
  w_here = rw (eq-eqb head head refl) refl

  pub w_elsewhere : (h : ℕ) → h ≢ head → w h ≡ shown p h
  w_elsewhere h ne = rw (ne_eqb h head ne) refl

  pub live_here : live_of w head ≡ Some xattrs
  live_here = ap (λ o. option_map (λ (x : Volume). x.live) o) w_here ∙ ap (λ (xs : Xattrs). Some xs) are

  -- once the head is written, what is shown is the step's: the clusters in its slots read as zeros
  pub shown_made : (claimed : List ℕ) → IsZeroed made later claimed
      → ((page cluster : ℕ) → is_among cluster claimed ≡ true
      → p.device.reads (cluster * f.cluster_pages + page % f.cluster_pages) ≡ zero_page)
      → shown_of p.super all (live_of w) p.device.reads ≡ w
  shown_made claimed zeroed zeros = shown_given p steady head later
      (none_childless p.base head lawful.parents none) new_steady w
      w_elsewhere
      (ap (λ o. Some (by p steady all (or_empty o) head later)) live_here
      ∙ ap (λ (x : Volume). Some x) (volume_zeroed f.cluster_pages p.device.reads f.md_len made later claimed zeroed
      zeros bare all head (given_here p.base head made head refl) (given_here p.base head later head refl)
      (λ h ne. given_elsewhere p.base head later h ne ∙ sym (given_elsewhere p.base head made h ne))
      (childless_given p.base head made (none_childless p.base head lawful.parents none) (λ q of. absurd (cc of)))
      (λ q _. page_zero f (shown p) p.device.reads bare head name slots thick uuid xattrs are
      (given_here p.base head made head refl) f.md_len q) xattrs
      ∙ volume_new f (shown p) p.device.reads bare head name slots thick uuid xattrs are
      (given_here p.base head made head refl))
      ∙ sym w_here)
