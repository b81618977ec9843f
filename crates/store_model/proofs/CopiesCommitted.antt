-- What is copied of open claims, once a replacement is made.
use Rattle.std.proofs.Common.{◌≡◌, ◌⊎◌, ℕ, suc, ◌+◌, ◌*◌, ◌/◌, ◌<◌, false, List, [], ◌∷◌, Some, refl, sym, ap, ◌∙◌}
use Rattle.std.proofs.Common.{subst, inl, inr, arith}
use Rattle.std.proofs.lemmas.Bool.{both_ways, cases_Bool, cases_eq}
use Rattle.std.proofs.lemmas.Nat.{div-mul-add}
use Rattle.page_disk.specs.Disk.{Image}
use Rattle.super_block.specs.declared.page.Super.{Super}
use Rattle.super_block.specs.Numbers.{cluster_pages_of}
use Rattle.blob_meta.specs.Parents.{slot}
use Rattle.blob_meta.specs.Resolving.{resolved}
use Rattle.md_chain.specs.Chain.{is_among}
use Rattle.store_model.specs.Copying.{AreCopied, HasCopied, IsUpToDate, IsWanted, LeavesSlotsEmpty, page_of_claim}
use Rattle.store_model.specs.Guarding.{all_renewed, AreClaimsDrawn}
use Rattle.store_model.specs.Maps.{Map, Metas, with_entry}
use Rattle.store_model.specs.Rows.{OpenClaim, Rows}
use Rattle.store_model.specs.Shown.{content}
use Rattle.store_model.specs.StoreState.{StoreState}
use Rattle.store_model.proofs.Copies.{copied_below, HaveNoMore}
use Rattle.store_model.proofs.Sets.{among_either}
use Rattle.store_model.proofs.WithEntry.{given_elsewhere, given_here}

-- the generation of a blob that is renewed is a new number, and that of any other stays
pub renewed : (generations : Map ℕ) (drawn : ℕ) (heads : List ℕ) (head number : ℕ)
    → all_renewed generations drawn heads head ≡ Some number
    → (drawn < number) ⊎ ((is_among head heads ≡ false) × (generations head ≡ Some number))
renewed generations drawn [] head number is = inr (refl, is)
renewed generations drawn (h ∷ heads) head number is =
    elim (renewed (with_entry generations h (drawn + 1)) (drawn + 1) heads head number is) [
      | inl later ↦ inl (omega (arith, later))
      | inr x ↦ elim (cases_eq head h) [
        | inl e ↦
            let one : drawn + 1 ≡ number =
            let both = sym (given_here generations h (drawn + 1) head e) ∙ x.1 in cc both in
            inl (omega (arith, one))
        | inr ne ↦ inr (
          elim (cases_Bool (is_among head (h ∷ heads))) [
            | inr out ↦ out
            | inl among ↦ elim (among_either head h heads among) [
              | inl e ↦ absurd (ne e)
              | inr later ↦ absurd (both_ways (is_among head heads) x.0 later)
            ]
          ],
          sym (given_elsewhere generations h (drawn + 1) head ne) ∙ x.1,
        )
      ]
    ]

-- With other metadata, by which each slot that is empty, of a blob that isn't renewed, was empty and shows what it
-- showed; a generation that isn't new was the blob's before.
module _ (p q : StoreState) (copied : AreCopied p) (heads : List ℕ) (super : q.super ≡ p.super)
    (reads : q.device.reads ≡ p.device.reads) (kept : Map ℕ)
    (were : (head number : ℕ) → kept head ≡ Some number → p.generations head ≡ Some number)
    (generations : q.generations ≡ all_renewed kept p.drawn heads) (drawn : AreClaimsDrawn p.rows p.drawn)
    (no_more : HaveNoMore (cluster_pages_of p.super) p.rows q.rows) where
  pub copied_committed : 0 < cluster_pages_of p.super → (Held : Image → Type 0) → Held p.device.reads
      → ((head : ℕ) → is_among head heads ≡ false
      → LeavesSlotsEmpty p.super (resolved p.base) (resolved q.base) Held head) → AreCopied q
  copied_committed some Held holds leaves row claim held wanted page has =
      let k = cluster_pages_of p.super in
      let x = no_more row claim page (record {
        held = held;
        copied = subst (λ (s : Super). HasCopied (cluster_pages_of s) (q.rows row).stage page) super has;
      }) in
      let low = copied_below k (p.rows row).stage page x.copied in
      let stays : (is_among claim.head heads ≡ false) × (p.generations claim.head ≡ Some claim.generation) =
      elim (renewed kept p.drawn heads claim.head claim.generation
      (ap (λ (g : Map ℕ). g claim.head) (sym generations) ∙ wanted.current)) [
        | inl later ↦ absurd (let le = drawn row claim x.held in omega (arith, le, later))
        | inr is ↦ (is.0, were claim.head claim.generation is.1)
      ] in
      let at : (claim.slot * k + page) / k ≡ claim.slot = div-mul-add claim.slot k page low in
      let was = leaves claim.head stays.0 (claim.slot * k + page) wanted.meta wanted.there
      (ap (slot wanted.meta) at ∙ wanted.empty) in
      let before : IsWanted p claim = record {
        current = stays.1;
        meta = was.old;
        there = was.there;
        empty = ap (slot was.old) (sym at) ∙ was.empty;
      } in
      ap (λ (s : Super). q.device.reads (claim.cluster * cluster_pages_of s + page)) super
      ∙ ap (λ (i : Image). i (page_of_claim p claim page)) reads
      ∙ copied row claim x.held before page x.copied
      ∙ sym (ap (λ (s : Super). content (cluster_pages_of s) q.device.reads (resolved q.base) (suc s.md_len) claim.head
      (claim.slot * cluster_pages_of s + page)) super
      ∙ ap (λ (i : Image). content k i (resolved q.base) (suc p.super.md_len) claim.head
      (claim.slot * k + page)) reads
      ∙ was.same p.device.reads holds)

-- With other metadata that resolves to the same, and other generations, by which no more claims are up to date.
pub copied_unseen : (p q : StoreState) → AreCopied p → q.super ≡ p.super → resolved q.base ≡ resolved p.base
    → q.rows ≡ p.rows → q.device.reads ≡ p.device.reads
    → ((row : ℕ) (claim : OpenClaim) → (p.rows row).claim ≡ Some claim → IsUpToDate q claim → IsUpToDate p claim)
    → AreCopied q
copied_unseen p q copied super base rows reads no_more row claim held wanted page has =
    let held_before : (p.rows row).claim ≡ Some claim = sym (ap (λ (x : Rows). (x row).claim) rows) ∙ held in
    let before : IsWanted p claim = record {
      current = no_more row claim held_before wanted.current;
      meta = wanted.meta;
      there = sym (ap (λ (m : Metas). m claim.head) base) ∙ wanted.there;
      empty = wanted.empty;
    } in
    let had : HasCopied (cluster_pages_of p.super) (p.rows row).stage page =
    subst (λ (x : Rows). HasCopied (cluster_pages_of p.super) (x row).stage page) rows
    (subst (λ (s : Super). HasCopied (cluster_pages_of s) (q.rows row).stage page) super has) in
    ap (λ (s : Super). q.device.reads (claim.cluster * cluster_pages_of s + page)) super
    ∙ ap (λ (i : Image). i (page_of_claim p claim page)) reads ∙ copied row claim held_before before page had
    ∙ sym (ap (λ (s : Super). content (cluster_pages_of s) q.device.reads (resolved q.base) (suc s.md_len) claim.head
    (claim.slot * cluster_pages_of s + page)) super
    ∙ ap (λ (i : Image). content (cluster_pages_of p.super) i (resolved q.base) (suc p.super.md_len) claim.head
    (claim.slot * cluster_pages_of p.super + page)) reads
    ∙ ap (λ (m : Metas). content (cluster_pages_of p.super) p.device.reads m (suc p.super.md_len) claim.head
    (claim.slot * cluster_pages_of p.super + page)) base)
