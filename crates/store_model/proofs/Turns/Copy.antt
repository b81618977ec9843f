-- The turn copies.
use Rattle.std.proofs.Common.{◌≡◌, ℕ, zero, suc, ◌+◌, ◌*◌, ◌<◌, Bool, true, false, Some, ap, arith, inl, inr, refl}
use Rattle.std.proofs.Common.{subst, sym, ◌∙◌}
use Rattle.std.proofs.lemmas.Bool.{cases_eq}
use Rattle.page_disk.specs.Disk.{Image}
use Rattle.page_disk.specs.declared.disk.PageDisk.{Ghosts}
use Rattle.super_block.specs.Numbers.{cluster_pages_of}
use Rattle.blob_meta.specs.Resolving.{resolved}
use Rattle.store_model.specs.Agreeing.{IsSameButAt}
use Rattle.store_model.specs.Copying.{AreCopied, HasCopied, page_of_claim, shown_in_slot}
use Rattle.store_model.specs.Device.{Device}
use Rattle.store_model.specs.Rows.{Copying, InJob, OpenClaim, Posted, Row, Stage, with_row}
use Rattle.store_model.specs.StoreState.{StoreState}
use Rattle.store_model.specs.Touches.{DoesTouch, left_by, puts}
use Rattle.store_model.specs.Turning.{read_after_write}
use Rattle.store_model.specs.Cases.Copy as case
use Rattle.store_model.specs.Cases.Copy.{Copies, stage_left}
use Rattle.store_model.specs.RunInvariant.{MayClaim, RunInvariant}
use Rattle.store_model.proofs.ClaimSets.{held_with}
use Rattle.store_model.proofs.Claims.{with_row_same}
use Rattle.store_model.proofs.Copies.{content_blank}
use Rattle.store_model.proofs.CopyTurning.{claimed_facts, claimed_images, slots_still}
use Rattle.store_model.proofs.Going.{left_of, told_reads}
use Rattle.store_model.proofs.Holding.{put_elsewhere, put_here}
use Rattle.store_model.proofs.Known.{Known}
use Rattle.store_model.proofs.Over.{Effect, ImageLaw, known_of, moves, no_less, nothing, Over, TurnLaw}
use Rattle.store_model.proofs.RowsKept.{row_here, row_other}
use Rattle.store_model.proofs.Shaped.{holding_may}
use Rattle.store_model.proofs.StateKept.{claim_facts, held_here, not_in_job}

-- ---- what is read

module _ (told : Bool) (p q : StoreState) (t : Copies told p q) where
  abbrev claim : OpenClaim
  claim = t.copying.claim

  abbrev place : ℕ
  place = page_of_claim p claim t.page

  reads_elsewhere : IsSameButAt place p.device.reads t.device.reads
  reads_elsewhere n ne = ap (λ (i : Image). i n) t.reads ∙ by told
    where
      by : (b : Bool) → read_after_write b p.device.reads place t.content n ≡ p.device.reads n
      by true = put_elsewhere p.device.reads place n t.content ne
      by false = refl

  held : (p.rows t.copying.row).claim ≡ Some claim
  held = ap (λ (r : Row). r.claim) t.copying.is

  at_stage : (p.rows t.copying.row).stage ≡ Copying (suc t.left)
  at_stage = ap (λ (r : Row). r.stage) t.copying.is

-- ---- it keeps what every state has

module _ (known : Known) (told : Bool) (q : StoreState) (t : Copies told known.p q) where
  open known use {s, placed, first, script, p, facts}

  abbrev k : ℕ
  k = cluster_pages_of p.super

  low : t.page < k
  low = let next = t.is_next in omega (arith, next)

  new : HasCopied k (p.rows t.copying.row).stage t.page → ⊥
  new has =
      let x : t.page + suc t.left < k = subst (λ (c : Stage). HasCopied k c t.page) (at_stage told p q t) has in
      let next = t.is_next in
      omega (arith, x, next)

  abbrev now : StoreState
  now = record p { device = t.device }

  read : RunInvariant s first script now
  read = claimed_facts known t.runs t.copying.row (claim told p q t) (held told p q t) t.page low t.device
      (reads_elsewhere told p q t) new (let clock = t.clock in omega (arith, clock))

  abbrev there : Known
  there = record known { p = now; facts = read }

  abbrev row : Row
  row = record { left = t.copying.left; stage = stage_left t.left; claim = Some (claim told p q t) }

  -- the page is the slot's
  is_copy : t.device.reads (place told p q t) ≡ shown_in_slot now (claim told p q t) t.page
  is_copy = by told refl
    where
      still : shown_in_slot now (claim told p q t) t.page ≡ shown_in_slot p (claim told p q t) t.page
      still = slots_still known t.runs t.copying.row (claim told p q t) (held told p q t) t.page low t.device
          (reads_elsewhere told p q t) (claim told p q t).head ((claim told p q t).slot * k + t.page)

      by : (b : Bool) → told ≡ b → t.device.reads (place told p q t) ≡ shown_in_slot now (claim told p q t) t.page
      by true is =
          ap (λ (i : Image). i (place told p q t)) t.reads
          ∙ ap (λ (b : Bool). read_after_write b p.device.reads (place told p q t) t.content (place told p q t)) is
          ∙ put_here p.device.reads (place told p q t) (place told p q t) t.content refl
          ∙ t.is_content is ∙ sym still
      by false is =
          ap (λ (i : Image). i (place told p q t)) t.reads
          ∙ ap (λ (b : Bool). read_after_write b p.device.reads (place told p q t) t.content (place told p q t)) is
          ∙ t.blank is (place told p q t)
          ∙ sym (still ∙ content_blank k p.device.reads (resolved p.base) (t.blank is) (suc p.super.md_len)
          (claim told p q t).head ((claim told p q t).slot * k + t.page))

  so_far : (left page : ℕ) → HasCopied k (stage_left left) page → page + left < k
  so_far zero page has = omega (arith, has)
  so_far (suc n) page has = has

  copied : AreCopied (record now { rows = with_row p.rows t.copying.row row })
  copied c other holds wanted page has = elim (cases_eq c t.copying.row) [
    | inl e ↦
        let same = row_here p.rows t.copying.row row c e in
        let one : claim told p q t ≡ other =
        let both = sym (ap (λ (r : Row). r.claim) same) ∙ holds in cc both in
        let under : page + t.left < k = so_far t.left page
        (subst (λ (r : Row). HasCopied k r.stage page) same has) in
        elim (cases_eq page t.page) [
          | inl here ↦ subst (λ (o : OpenClaim). t.device.reads (page_of_claim p o page) ≡ shown_in_slot now o page) one
              (subst (λ n. t.device.reads (page_of_claim p (claim told p q t) n)
              ≡ shown_in_slot now (claim told p q t) n) (sym here) is_copy)
          | inr ne ↦
              let next = t.is_next in
              let before : page + suc t.left < k = omega (arith, under, next, ne) in
              (read.well t.runs).copied t.copying.row other (held told p q t ∙ ap (λ o. Some o) one)
              (record { current = wanted.current; meta = wanted.meta; there = wanted.there; empty = wanted.empty }) page
              (subst (λ (x : Stage). HasCopied k x page) (sym (at_stage told p q t)) before)
        ]
    | inr ne ↦
        let same = row_other p.rows t.copying.row row c ne in
        (read.well t.runs).copied c other (sym (ap (λ (r : Row). r.claim) same) ∙ holds)
        (record { current = wanted.current; meta = wanted.meta; there = wanted.there; empty = wanted.empty }) page
        (subst (λ (r : Row). HasCopied k r.stage page) same has)
  ]

  may_hold : (left : ℕ) → MayClaim (stage_left left)
  may_hold zero = tt
  may_hold (suc n) = tt

  not_posted : (left serial : ℕ) → stage_left left ≡ Posted serial → ⊥
  not_posted zero serial bad = cc bad
  not_posted (suc n) serial bad = cc bad

  in_none : (left : ℕ) → stage_left left ≡ InJob → ⊥
  in_none zero bad = cc bad
  in_none (suc n) bad = cc bad

  keeps : RunInvariant s first script q
  keeps = subst (RunInvariant s first script) (sym t.next)
      (claim_facts there t.copying.row row p.clusters p.serial (ap (λ (r : Row). r.left) t.copying.is)
      (not_in_job known _ _ t.copying.is (λ bad. cc bad))
      (λ runs. held_with now (with_row p.rows t.copying.row row) (held_here there (read.well runs))
      (with_row_same p.rows t.copying.row row (sym (held told p q t))) copied)
      (holding_may _ t.copying.row t.copying.left (stage_left t.left) (claim told p q t) (may_hold t.left)
      (λ serial bad. absurd (not_posted t.left serial bad)) (λ bad. absurd (in_none t.left bad))))

-- ---- its images

module _ {D : Type 0} (d : Ghosts D) (x : Over d) (t : Copies d.tells x.p x.q) where
  open x use {told, s, placed, first, script, p, q, from, to, to_is, from_is, facts}

  read_now_same : IsSameButAt (place d.tells p q t) (d.now from) (d.now to)
  read_now_same n ne =
      ap (λ (i : Image). i n) (sym (told_reads d to told) ∙ sym (ap (λ (v : Device). v.reads) to_is)
      ∙ ap (λ (v : StoreState). v.device.reads) t.next)
      ∙ reads_elsewhere d.tells p q t n ne
      ∙ ap (λ (i : Image). i n) (ap (λ (v : Device). v.reads) from_is ∙ told_reads d from told)

  images : DoesTouch d from to (puts (place d.tells p q t) t.content false)
      → ImageLaw d x (left_by (puts (place d.tells p q t) t.content false) (d.images from) (d.now from))
  images does =
      claimed_images d x t.copying.row (claim d.tells p q t) (held d.tells p q t) t.page
      (low (known_of x) d.tells q t) t.runs t.content (ap (λ (v : StoreState). v.base) t.next)
      (ap (λ (v : StoreState). v.chains) t.next) (ap (λ (v : StoreState). v.log) t.next)
      (ap (λ (v : StoreState). v.job) t.next) read_now_same
      (left_of d x (puts (place d.tells p q t) t.content false) does)

pub law : TurnLaw case.kind
law = record {
  keeps = λ _ told known q t. keeps known told q t;
  effect = λ told p q t. subst (Effect p) (sym t.next)
      (record { goes = moves t.runs refl t.write_faults (no_less t.read_faults); logs = nothing refl refl });
  images = images;
  job = λ of. absurd of;
}
