-- A page of a cluster that the running job has claimed: no volume has it, so it may be overwritten.
use Rattle.std.proofs.Common.{◌≡◌, ℕ, ◌*◌, ◌/◌, ◌%◌, ◌<◌, ◌≤◌, Some, None, true, refl, sym, ap, ◌∙◌, subst, inl, inr}
use Rattle.std.proofs.lemmas.Nat.{div-mul-add}
use Rattle.std.proofs.Math.Nat.{mod-lt}
use Rattle.page_disk.specs.Disk.{Image, Images, Written}
use Rattle.page_disk.specs.declared.disk.PageDisk.{Ghosts}
use Rattle.page_disk.specs.declared.disk.WriteKind.TheVariants.{Plain}
use Rattle.super_block.specs.declared.page.Super.{Super}
use Rattle.super_block.specs.Numbers.{cluster_pages_of, fixed_clusters_of}
use Rattle.volume_model.specs.Volumes.{zero_page}
use Rattle.blob_meta.specs.Resolving.{resolved}
use Rattle.md_chain.specs.Chain.{is_among}
use Rattle.store_model.specs.Device.{Device}
use Rattle.store_model.specs.Places.{claimed_by}
use Rattle.store_model.specs.Agreeing.{IsNoPage, IsSameButAt, Stands}
use Rattle.store_model.specs.RunInvariant.{RunsWell}
use Rattle.store_model.specs.StoreState.{shown}
use Rattle.store_model.proofs.Holding.{put_elsewhere}
use Rattle.store_model.proofs.JobKept.{claimed_behind}
use Rattle.store_model.proofs.Known.{Known}
use Rattle.store_model.proofs.Over.{known_of, Over, says, Way}
use Rattle.store_model.proofs.Resolved.{resolved_mapped}
use Rattle.store_model.proofs.Shows.{shown_agree}
use Rattle.store_model.proofs.StandsKept.{stands_claimed}

module _ (known : Known) where
  open known use {s, placed, first, script, p, facts}

  module _ (runs : p.stopped ≡ None) (page : ℕ)
      (among : is_among (page / cluster_pages_of p.super) (claimed_by p.job) ≡ true) where
    well : RunsWell first p
    well = facts.well runs

    -- no slot has a cluster with the page
    pub no_page : IsNoPage (cluster_pages_of p.super) (resolved p.base) page
    no_page head q cluster m there in_slot e =
        let k = cluster_pages_of p.super in
        let some : 0 < k = subst (λ (x : Super). 0 < cluster_pages_of x) (sym facts.super) placed.some_pages in
        let row : page / k ≡ cluster = ap (λ n. n / k) (sym e) ∙ div-mul-add cluster k (q % k) (mod-lt q some) in
        (well.clusters.apart (page / k) (inr among)).1 (resolved_mapped p.base (page / k) (record {
          head = head;
          meta = m;
          there = there;
          place = q / k;
          in_slot = in_slot ∙ ap Some (sym row);
        }))

    -- the volumes are shown as they are, whatever is read there
    pub shown_still : (d : Device) → IsSameButAt page p.device.reads d.reads → shown (record p { device = d }) ≡ shown p
    shown_still d same = shown_agree p.super (resolved p.base)
        facts.lawful.parents p.device.reads d.reads
        (λ head q cluster m there in_slot _. same _ (no_page head q cluster m there in_slot)) p.live

-- ---- its images

module _ {D : Type 0} (d : Ghosts D) (x : Over d) where
  open x use {s, placed, first, script, p, from, to, old, facts}

  module _ (runs : p.stopped ≡ None) (page : ℕ)
      (among : is_among (page / cluster_pages_of p.super) (claimed_by p.job) ≡ true) where
    abbrev pub At : Images
    At = Written (d.images from) page Plain zero_page

    pub behind : fixed_clusters_of s * cluster_pages_of s ≤ page
    behind = subst (λ (t : Super). fixed_clusters_of t * cluster_pages_of t ≤ page) facts.super
        (claimed_behind (known_of x) (facts.well runs) page among)

    -- an image from before, but for the page
    record Differs (c : Image) : Type 0 where
      before : Image
      was : d.images from before
      but : IsSameButAt page before c

    differs : (c : Image) → At c → Differs c
    differs c w = elim w.kept_or_put [
      | inl e ↦ record { before = w.before; was = w.was; but = λ k ne. ap (λ (i : Image). i k) e }
      | inr e ↦ record {
        before = w.before;
        was = w.was;
        but = λ k ne. ap (λ (i : Image). i k) e.0 ∙ put_elsewhere w.before page k w.page ne;
      }
    ]

    -- each stands on, by what is read before and after
    pub claimed_stands : (later : Image) → IsSameButAt page (d.now from) later → (c : Image) → At c
        → Stands s first p.base p.chains p.log later c
    claimed_stands later read c w =
        let y = differs c w in
        stands_claimed s placed first p.base p.chains p.log page (d.now from) later y.before c behind
        (subst (λ (t : Super). IsNoPage (cluster_pages_of t) (resolved p.base) page) facts.super
        (no_page (known_of x) runs page among)) read y.but (old.stands runs y.before y.was)

    pub claimed_way : (c : Image) → At c → Way d x c
    claimed_way c w = says runs (claimed_stands (d.now from) (λ k ne. refl) c w)
