-- A page of a claimed cluster is written: nothing that is shown depends on it, nor what images say.
use Rattle.std.proofs.Common.{◌≡◌, ℕ, suc, ◌+◌, ◌*◌, ◌/◌, ◌%◌, ◌<◌, ◌≤◌, false, List, Some, None, refl, sym, ap, ◌∙◌}
use Rattle.std.proofs.Common.{subst, inl, inr, arith}
use Rattle.std.proofs.Math.Nat.{mod-lt, mul-le-mul_right}
use Rattle.std.proofs.lemmas.Nat.{div-mul-add}
use Rattle.std.specs.Prelude.{true}
use Rattle.std.proofs.lemmas.Bool.{both_ways}
use Rattle.store_model.specs.Places.{claimed_by}
use Rattle.page_disk.specs.Disk.{Image, Images, Written}
use Rattle.page_disk.specs.declared.disk.PageDisk.{Ghosts}
use Rattle.page_disk.specs.declared.disk.WriteKind.TheVariants.{Plain}
use Rattle.super_block.specs.declared.page.Super.{Super}
use Rattle.super_block.specs.Numbers.{cluster_pages_of, fixed_clusters_of}
use Rattle.blob_meta.specs.Resolving.{IsLawful, resolved}
use Rattle.md_chain.specs.Chain.{is_among}
use Rattle.store_model.specs.Agreeing.{AgreeOn, IsNoPage, IsSameButAt, Stands}
use Rattle.store_model.specs.Copying.{AreCopied, HasCopied, page_of_claim}
use Rattle.store_model.specs.Device.{Device}
use Rattle.store_model.specs.Places.{HasClaim}
use Rattle.store_model.specs.Rows.{OpenClaim}
use Rattle.store_model.specs.StoreState.{shown}
use Rattle.store_model.specs.RunInvariant.{RunInvariant, RunsWell}
use Rattle.store_model.proofs.Copies.{copied_still}
use Rattle.store_model.proofs.Holding.{put_elsewhere}
use Rattle.store_model.proofs.Known.{Known}
use Rattle.store_model.proofs.OneReplacement.{some_pages}
use Rattle.store_model.proofs.Resolved.{resolved_mapped}
use Rattle.store_model.proofs.Over.{ImageLaw, known_of, Over, says, Way}
use Rattle.store_model.proofs.PageWritten.{same_place}
use Rattle.store_model.proofs.Shows.{shown_agree}
use Rattle.store_model.proofs.StandsKept.{far_metadata, stands_claimed}
use Rattle.volume_model.specs.declared.reply.Entry.{Entry}
use Rattle.store_model.specs.Places.{held_by}
use Rattle.store_model.specs.Shown.{content}
use Rattle.store_model.proofs.Contents.{same_content}
use Rattle.store_model.proofs.JobKept.{held_low}
use Rattle.store_model.specs.Jobs.{gained_by}
use Rattle.store_model.proofs.LeftToDo.{next_of}
use Rattle.store_model.proofs.Shapes.{moved_to}
use Rattle.store_model.proofs.DeviceKept.{device_by}

-- ---- what is shown

module _ (known : Known) (runs : known.p.stopped ≡ None) (row : ℕ) (claim : OpenClaim)
    (held : (known.p.rows row).claim ≡ Some claim) (page : ℕ)
    (low : page < cluster_pages_of known.p.super) where
  open known use {s, placed, first, script, p, facts}

  well : RunsWell first p
  well = facts.well runs

  abbrev k : ℕ
  k = cluster_pages_of p.super

  abbrev place : ℕ
  place = page_of_claim p claim page

  claimed : HasClaim p.rows p.job claim.cluster
  claimed = inl (record { channel = row; claim = claim; held = held; is = refl })

  -- it lies behind the fixed clusters
  pub claimed_behind : fixed_clusters_of s * cluster_pages_of s ≤ place
  claimed_behind =
      let far = (well.clusters.apart claim.cluster claimed).0 in
      let le : fixed_clusters_of p.super * k ≤ place = let m = mul-le-mul_right k far in omega (arith, m) in
      subst (λ (x : Super). fixed_clusters_of x * cluster_pages_of x ≤ place) facts.super le

  -- and is no page of a volume
  claimed_apart : IsNoPage k (resolved p.base) place
  claimed_apart head q cluster m there is e =
      let one = same_place k cluster claim.cluster (q % k) page (mod-lt q (some_pages known)) low e in
      (well.clusters.apart claim.cluster claimed).1 (resolved_mapped p.base claim.cluster (record {
        head = head;
        meta = m;
        there = there;
        place = q / k;
        in_slot = is ∙ ap (λ n. Some n) one.row;
      }))

  pub claimed_no_page : IsNoPage (cluster_pages_of s) (resolved p.base) place
  claimed_no_page = subst (λ (x : Super). IsNoPage (cluster_pages_of x) (resolved p.base) place) facts.super
      claimed_apart

  module _ (d : Device) (same : IsSameButAt place p.device.reads d.reads) where
    agrees : AgreeOn k (resolved p.base) (λ _ _. false) p.device.reads d.reads
    agrees head q cluster m there is _ = same (cluster * k + q % k) (claimed_apart head q cluster m there is)

    lawful : IsLawful p.super.md_len (resolved p.base)
    lawful = subst (λ (x : Super). IsLawful x.md_len (resolved p.base)) (sym facts.super) facts.lawful

    shown_still : shown (record p { device = d }) ≡ shown p
    shown_still = shown_agree p.super (resolved p.base) lawful.parents p.device.reads d.reads agrees p.live

    -- what slots show
    pub slots_still : (head q : ℕ)
        → content k d.reads (resolved p.base) (suc p.super.md_len) head q
        ≡ content k p.device.reads (resolved p.base) (suc p.super.md_len) head q
    slots_still head q = same_content k (resolved p.base) lawful.parents (λ _ _. false) p.device.reads d.reads agrees
        (suc p.super.md_len) head q refl

    -- where the row hasn't copied the page yet, what was copied stays
    module _ (new : HasCopied k (p.rows row).stage page → ⊥) where
      copied_too : AreCopied (record p { device = d })
      copied_too =
          copied_still p (record p { device = d }) well.copied refl refl refl (λ _ _ _ x. x)
          (λ other theirs n x under. same (page_of_claim p theirs n) (λ e.
          let one = same_place k theirs.cluster claim.cluster n page under low e in
          let channel = well.claims.rows other row theirs claim x.held held one.row in
          new (subst (λ c. HasCopied k (p.rows c).stage page) channel
          (subst (HasCopied k (p.rows other).stage) one.column x.copied))))
          (λ theirs n wanted under. slots_still theirs.head (theirs.slot * k + n))

      pub claimed_facts : p.device.clock ≤ d.clock → RunInvariant s first script (record p { device = d })
      claimed_facts later = device_by known p.filling d shown_still (λ _. copied_too) (λ n among. same n (λ e.
          let at : n / k ≡ claim.cluster = ap (λ m. m / k) e ∙ div-mul-add claim.cluster k page low in
          both_ways (is_among claim.cluster (claimed_by p.job)) (well.claims.job row claim held)
          (subst (λ m. is_among m (claimed_by p.job) ≡ true) at among))) later

-- ---- what images say

module _ {D : Type 0} (d : Ghosts D) (x : Over d) (row : ℕ) (claim : OpenClaim)
    (held : (x.p.rows row).claim ≡ Some claim) (page : ℕ) (low : page < cluster_pages_of x.p.super)
    (runs : x.p.stopped ≡ None) (content : List ℕ) where
  open x use {told, law, s, placed, first, script, p, q, from, to, to_is, from_is, old, facts}

  abbrev at : ℕ
  at = page_of_claim p claim page

  abbrev At : Images
  At = Written (d.images from) at Plain content

  stand : (later : Image) → IsSameButAt at (d.now from) later → (c : Image) → At c
      → Stands s first p.base p.chains p.log later c
  stand later read c w = elim w.kept_or_put [
    | inl e ↦ subst (Stands s first p.base p.chains p.log later) (sym e)
        (stands_claimed s placed first p.base p.chains p.log at (d.now from) later w.before w.before
        (claimed_behind (known_of x) runs row claim held page low)
        (claimed_no_page (known_of x) runs row claim held page low) read (λ q ne. refl)
        (old.stands runs w.before w.was))
    | inr e ↦ subst (Stands s first p.base p.chains p.log later) (sym e.0)
        (stands_claimed s placed first p.base p.chains p.log at (d.now from) later w.before _
        (claimed_behind (known_of x) runs row claim held page low)
        (claimed_no_page (known_of x) runs row claim held page low) read
        (λ q ne. put_elsewhere w.before at q w.page ne) (old.stands runs w.before w.was))
  ]

  pub claimed_way : (c : Image) → At c → Way d x c
  claimed_way c w = says runs (stand (d.now from) (λ k ne. refl) c w)

  -- the write failed, and the store stops
  pub claimed_fails : (length : ℕ) → q.stopped ≡ Some length → ImageLaw d x At
  claimed_fails length stops = record {
    way = claimed_way;
    stands = λ on. absurd (let bad = sym on ∙ stops in cc bad);
    written = λ on. absurd (let bad = sym on ∙ stops in cc bad);
  }

  -- it is done; it isn't lasting yet
  pub claimed_images : q.base ≡ p.base → q.chains ≡ p.chains → q.log ≡ p.log → q.job ≡ p.job
      → IsSameButAt at (d.now from) (d.now to) → ((c : Image) → d.images to c → At c)
      → ImageLaw d x At
  claimed_images base chains log job read left = record {
    way = claimed_way;
    stands = λ on c left_it.
        subst (λ (l : List Entry). Stands s first q.base q.chains l (d.now to) c) (sym log)
        (moved_to d x c base chains p.log (stand (d.now to) read c (left c left_it)));
    written = λ on j is place among.
        let was = sym job ∙ is in
        let well = facts.well runs in
        let stood = well.job j was in
        let next = next_of p.super p.base p.chains (gained_by p.rows j) j.todo j.written place among stood.lays in
        let under = held_low (known_of x) well (held_by p.job) refl place
        (ap (λ o. is_among place (held_by o)) was ∙ next.is_held place (next.fresh place among)) in
        read (s.md_start + place)
        (far_metadata s placed at (claimed_behind (known_of x) runs row claim held page low) place under)
        ∙ old.written runs j was place among;
  }
