-- What was copied of a slot stays its content.
use Rattle.std.specs.Prelude.{nat_lt, if◌then◌else◌}
use Rattle.std.specs.Option.{option_map_or}
use Rattle.std.proofs.Common.{length, true, zero, ◌≡◌, ℕ, suc, ◌+◌, ◌*◌, ◌/◌, ◌%◌, ◌<◌, ◌≤◌, ◌==◌, ◌&&◌, Bool, false}
use Rattle.std.proofs.Common.{Option, Some, None, refl, sym, ap, ◌∙◌, subst, inl, inr, arith}
use Rattle.std.proofs.lemmas.Bool.{cases_Bool, cases_eq, eqb-true}
use Rattle.std.proofs.lemmas.Nat.{div-mul-add}
use Rattle.std.proofs.Math.Nat.{mod-lt, mul-le-mul_right}
use Rattle.page_disk.specs.Disk.{Image}
use Rattle.super_block.specs.declared.page.Super.{Super}
use Rattle.super_block.specs.Numbers.{cluster_pages_of, fixed_clusters_of}
use Rattle.volume_model.specs.Volumes.{Page, zero_page}
use Rattle.blob_meta.specs.declared.meta.Meta.{Meta}
use Rattle.blob_meta.specs.Parents.{parent_of, slot}
use Rattle.blob_meta.specs.Resolving.{IsLawful, resolved}
use Rattle.store_model.specs.Agreeing.{AgreeOn, IsPageOf, IsSameButAt}
use Rattle.store_model.specs.Copying.{AreCopied, HasCopied, IsWanted, page_of_claim}
use Rattle.store_model.specs.Maps.{Map, Metas}
use Rattle.store_model.specs.Places.{HasClaim, UsedClusters}
use Rattle.store_model.specs.Rows.{Copying, InJob, OpenClaim, Posted, Ready, Row, Rows, Stage, with_row}
use Rattle.store_model.specs.Shown.{content, content_by}
use Rattle.store_model.specs.StoreState.{StoreState}
use Rattle.store_model.proofs.Resolved.{resolved_mapped}
use Rattle.store_model.proofs.Contents.{HasParents, same_content}
use Rattle.store_model.proofs.PageWritten.{other_page, same_place}
use Rattle.store_model.proofs.RowsKept.{row_here, row_other}
use Rattle.store_model.proofs.Shows.{agree, AreFaultless}

-- this page was copied for the row's claim
pub record IsCopiedFor (pages : ℕ) (rows : Rows) (row : ℕ) (claim : OpenClaim) (page : ℕ) : Type 0 where
  pub held : (rows row).claim ≡ Some claim
  pub copied : HasCopied pages (rows row).stage page

-- each page was copied for these rows that was for the others
abbrev pub HaveNoMore : ℕ → Rows → Rows → Type 0
HaveNoMore pages rows others = (row : ℕ) (claim : OpenClaim) (page : ℕ) → IsCopiedFor pages others row claim page
    → IsCopiedFor pages rows row claim page

-- rows of which one is another: for that one no page is copied which wasn't
pub row_no_more : (pages : ℕ) (rows : Rows) (channel : ℕ) (row : Row)
    → ((claim : OpenClaim) (page : ℕ) → row.claim ≡ Some claim → HasCopied pages row.stage page
    → IsCopiedFor pages rows channel claim page) → HaveNoMore pages rows (with_row rows channel row)
row_no_more pages rows channel row no_more c claim page x = elim (cases_eq c channel) [
  | inl e ↦
      let same = row_here rows channel row c e in
      subst (λ n. IsCopiedFor pages rows n claim page) (sym e)
      (no_more claim page (sym (ap (λ (r : Row). r.claim) same) ∙ x.held)
      (subst (λ (r : Row). HasCopied pages r.stage page) same x.copied))
  | inr ne ↦
      let same = row_other rows channel row c ne in
      record {
        held = sym (ap (λ (r : Row). r.claim) same) ∙ x.held;
        copied = subst (λ (r : Row). HasCopied pages r.stage page) same x.copied;
      }
]

-- as of one that has no claim
pub row_unclaimed : (pages : ℕ) (rows : Rows) (channel : ℕ) (row : Row) → row.claim ≡ None
    → HaveNoMore pages rows (with_row rows channel row)
row_unclaimed pages rows channel row none =
    row_no_more pages rows channel row (λ claim page held. absurd (let bad = sym none ∙ held in cc bad))

-- a page that was copied is one of the cluster's
pub copied_below : (pages : ℕ) (stage : Stage) (page : ℕ) → HasCopied pages stage page → page < pages
copied_below pages (Copying left) page has = omega (arith, has)
copied_below pages Ready page has = has
copied_below pages (Posted serial) page has = has
copied_below pages InJob page has = has
copied_below pages _ page has = absurd has

-- where zeros stand for all pages zeros are shown
module _ (k : ℕ) (image : Image) (metas : Metas) (blank : (n : ℕ) → image n ≡ zero_page) where
  abbrev IsBlankAfter : ℕ → Type 0
  IsBlankAfter times = (head page : ℕ) → content k image metas times head page ≡ zero_page

  from_blob : (times p page : ℕ) → IsBlankAfter times → (o : Option Meta)
      → option_map_or (λ (x : Meta). if nat_lt page (k * length x.map) then content k image metas times p page
      else zero_page) o zero_page ≡ zero_page
  from_blob times p page none None = refl
  from_blob times p page none (Some m) = by (nat_lt page (k * length m.map))
    where
      by : (b : Bool) → (if b then content k image metas times p page else zero_page) ≡ zero_page
      by true = none p page
      by false = refl

  from_parent : (times page : ℕ) → IsBlankAfter times → (o : Option ℕ)
      → option_map_or (λ p. option_map_or (λ (x : Meta). if nat_lt page (k * length x.map)
      then content k image metas times p page else zero_page) (metas p) zero_page) o zero_page ≡ zero_page
  from_parent times page none None = refl
  from_parent times page none (Some p) = from_blob times p page none (metas p)

  in_slot : (times page : ℕ) → IsBlankAfter times → (m : Meta) (o : Option ℕ) → slot m (page / k) ≡ o
      → content_by k image metas (λ p r. content k image metas times p r) page m ≡ zero_page
  in_slot times page none m None is = rw is (from_parent times page none (parent_of m))
  in_slot times page none m (Some cluster) is = rw is (blank (cluster * k + page % k))

  of_blob : (times page : ℕ) → IsBlankAfter times → (o : Option Meta)
      → option_map_or (content_by k image metas (λ p r. content k image metas times p r) page) o zero_page ≡ zero_page
  of_blob times page none None = refl
  of_blob times page none (Some m) = in_slot times page none m (slot m (page / k)) refl

  pub content_blank : (times : ℕ) → IsBlankAfter times
  content_blank zero head page = refl
  content_blank (suc times) head page = of_blob times page (content_blank times) (metas head)

-- ---- the metadata and the generations stay

module _ (p q : StoreState) (copied : AreCopied p) (super : q.super ≡ p.super) (base : q.base ≡ p.base)
    (generations : q.generations ≡ p.generations) (no_more : HaveNoMore (cluster_pages_of p.super) p.rows q.rows) where
  abbrev k : ℕ
  k = cluster_pages_of p.super

  abbrev reads_in_slot : Image → OpenClaim → ℕ → Page
  reads_in_slot image claim page =
      content k image (resolved p.base) (suc p.super.md_len) claim.head (claim.slot * k + page)

  -- each claimed page, and what the slots show, are as they were
  pub copied_still : ((row : ℕ) (claim : OpenClaim) (page : ℕ) → IsCopiedFor k p.rows row claim page → page < k
      → q.device.reads (page_of_claim p claim page) ≡ p.device.reads (page_of_claim p claim page))
      → ((claim : OpenClaim) (page : ℕ) → IsWanted p claim → page < k
      → reads_in_slot q.device.reads claim page ≡ reads_in_slot p.device.reads claim page) → AreCopied q
  copied_still same shows row claim held wanted page has =
      let x = no_more row claim page (record {
        held = held;
        copied = subst (λ (s : Super). HasCopied (cluster_pages_of s) (q.rows row).stage page) super has;
      }) in
      let was : IsWanted p claim = record {
        current = ap (λ (g : Map ℕ). g claim.head) (sym generations) ∙ wanted.current;
        meta = wanted.meta;
        there = ap (λ (m : Metas). resolved m claim.head) (sym base) ∙ wanted.there;
        empty = wanted.empty;
      } in
      let low = copied_below k (p.rows row).stage page x.copied in
      ap (λ (s : Super). q.device.reads (claim.cluster * cluster_pages_of s + page)) super
      ∙ same row claim page x low
      ∙ copied row claim x.held was page x.copied
      ∙ sym (ap (λ (s : Super). content (cluster_pages_of s) q.device.reads (resolved q.base) (suc s.md_len) claim.head
      (claim.slot * cluster_pages_of s + page)) super
      ∙ ap (λ (m : Metas). content k q.device.reads (resolved m) (suc p.super.md_len) claim.head
      (claim.slot * k + page)) base
      ∙ shows claim page was low)

  -- what is read is
  pub copied_same : q.device.reads ≡ p.device.reads → AreCopied q
  copied_same reads = copied_still (λ row claim page x low. ap (λ (i : Image). i (page_of_claim p claim page)) reads)
      (λ claim page wanted low. ap (λ (i : Image). reads_in_slot i claim page) reads)

  -- no page of a cluster that some slot has is read otherwise, nor one of a claimed cluster
  pub copied_agree : HasParents (resolved p.base)
      → AgreeOn k (resolved p.base) (λ _ _. false) p.device.reads q.device.reads
      → ((row : ℕ) (claim : OpenClaim) (page : ℕ) → (p.rows row).claim ≡ Some claim → page < k
      → q.device.reads (page_of_claim p claim page) ≡ p.device.reads (page_of_claim p claim page)) → AreCopied q
  copied_agree parents agree same = copied_still (λ row claim page x low. same row claim page x.held low)
      (λ claim page wanted low.
      same_content k (resolved p.base) parents (λ _ _. false) p.device.reads q.device.reads agree (suc p.super.md_len)
      claim.head (claim.slot * k + page) refl)

  -- nothing is read otherwise behind the fixed clusters
  pub copied_behind : HasParents (resolved p.base) → AreFaultless p.super (resolved p.base)
      → UsedClusters p.super p.clusters p.base (HasClaim p.rows p.job)
      → ((page : ℕ) → fixed_clusters_of p.super * k ≤ page → q.device.reads page ≡ p.device.reads page) → AreCopied q
  copied_behind parents faultless used same = copied_agree parents
      (agree p.super (resolved p.base) parents faultless p.device.reads q.device.reads same)
      (λ row claim page held low.
      let far = (used.apart claim.cluster
      (inl (record { channel = row; claim = claim; held = held; is = refl }))).0 in
      let le = mul-le-mul_right k far in
      same (page_of_claim p claim page) (omega (arith, le)))

  -- a page of a volume is read otherwise
  pub copied_written : 0 < k → IsLawful p.super.md_len (resolved p.base)
      → UsedClusters p.super p.clusters p.base (HasClaim p.rows p.job)
      → (head page place : ℕ) → IsPageOf p.super (resolved p.base) head page place
      → IsSameButAt place p.device.reads q.device.reads → AreCopied q
  copied_written some lawful used head page place at same = copied_still
      (λ row claim n x low. same (page_of_claim p claim n) (λ e.
      let one = same_place k claim.cluster at.cluster n (page % k) low (mod-lt page some) (e ∙ at.place_is) in
      (used.apart claim.cluster (inl (record { channel = row; claim = claim; held = x.held; is = refl }))).1
      (resolved_mapped p.base claim.cluster (record {
        head = head;
        meta = at.meta;
        there = at.there;
        place = page / k;
        in_slot = at.in_slot ∙ ap (λ n. Some n) (sym one.row);
      }))))
      (λ claim n wanted low. other_page p.super some (resolved p.base) lawful head page place at p.device.reads
      q.device.reads (q.device.reads place) refl same (suc p.super.md_len) claim.head (claim.slot * k + n)
      (apart claim n wanted low))
    where
      apart : (claim : OpenClaim) (n : ℕ) → IsWanted p claim → n < k
          → ((claim.head == head) && (claim.slot * k + n == page)) ≡ false
      apart claim n wanted low = elim (cases_Bool (claim.head == head)) [
        | inr other ↦ rw other refl
        | inl is ↦ elim (cases_Bool (claim.slot * k + n == page)) [
          | inr other ↦ rw (is, other) refl
          | inl here ↦
              let h : claim.head ≡ head = eqb-true claim.head head is in
              let e : page / k ≡ claim.slot =
              ap (λ m. m / k) (sym (eqb-true (claim.slot * k + n) page here)) ∙ div-mul-add claim.slot k n low in
              let m : wanted.meta ≡ at.meta = let both = sym wanted.there ∙ ap (resolved p.base) h ∙ at.there in cc
              both in
              absurd (let bad = sym wanted.empty ∙ ap (λ (x : Meta). slot x claim.slot) m ∙ ap (slot at.meta) (sym e)
              ∙ at.in_slot in cc bad)
        ]
      ]
