-- The metadata with a new clone: what it is resolved to, and that it is lawful.
use Rattle.std.proofs.Common.{◌≡◌, ◌≢◌, ℕ, zero, suc, ◌+◌, ◌^◌, ◌<◌, ◌≤◌, true, Some, None, [], length, refl, sym}
use Rattle.std.proofs.Common.{ap, ◌∙◌, inl, inr, arith}
use Rattle.std.specs.Prelude.{◌==◌, if◌then◌else◌}
use Rattle.std.proofs.lemmas.Bool.{cases_eq, eq-eqb, ne_eqb}
use Rattle.std.proofs.lemmas.List.{length-replicate}
use Rattle.std.proofs.Math.Path.{fun_ext}
use Rattle.volume_model.specs.Volumes.{Fixed}
use Rattle.volume_model.specs.Xattrs.{Xattrs}
use Rattle.blob_meta.specs.declared.job.Job.{Job}
use Rattle.blob_meta.specs.declared.meta.Meta.{Meta}
use Rattle.blob_meta.specs.Parents.{is_read_only, parent_of, slot}
use Rattle.blob_meta.specs.Resolving.{IsLawful, mark_of, resolved, slots_together}
use Rattle.blob_meta.proofs.Fates.{resolved_unmarked}
use Rattle.snapshots.specs.SnapshotJobs.{clone_job, new_clone}
use Rattle.shown_volumes.specs.JobLaws.{IsClear}
use Rattle.shown_volumes.specs.Maps.{Metas, with_entry}
use Rattle.shown_volumes.specs.ShowsStep.{IsAtRest, part_of}
use Rattle.shown_volumes.proofs.EmptyMaps.{empty_slot}
use Rattle.shown_volumes.proofs.Marked.{as_before}
use Rattle.shown_volumes.proofs.SlotSums.{slots_given, slots_in}
use Rattle.shown_volumes.proofs.SnapshotParts.{low_head, orphan}
use Rattle.shown_volumes.proofs.Valued.{mark_named, parent_named}
use Rattle.shown_volumes.proofs.WithEntry.{given_cases, given_elsewhere, given_here}

module _ (f : Fixed) (base : Metas) (rest : IsAtRest f base) (of head : ℕ) (old : Meta) (xattrs : Xattrs)
    (there : base of ≡ Some old) (clear : IsClear f base head) where
  abbrev law : IsLawful f.md_len base
  law = rest.lawful

  abbrev pub job : Job
  job = clone_job of old head xattrs

  abbrev pub new : Meta
  new = new_clone of old head xattrs

  abbrev pub next : Metas
  next = with_entry base head new

  pub apart : of ≢ head
  apart e = let bad : None ≡ Some old = sym clear.none ∙ ap base (sym e) ∙ there in absurd (cc bad)

  pub parent_new : parent_of new ≡ Some of
  parent_new = parent_named [] of (low_head f base rest of old there)

  mark_new : mark_of new ≡ None
  mark_new = mark_named [] of

  pub long_new : length new.map ≡ length old.map
  long_new = length-replicate (length old.map) None

  -- what the parts of the job are resolved to
  after_first : resolved next ≡ next
  after_first = fun_ext (λ h. elim (cases_eq h head) [
    | inl e ↦ ap (resolved next) e
        ∙ resolved_unmarked next head new (given_here base head new head refl) mark_new
        ∙ sym (given_here base head new h e)
    | inr ne ↦ as_before base next rest.unmarked h (given_elsewhere base head new h ne)
        ∙ sym (given_elsewhere base head new h ne)
  ])

  pub early : (count : ℕ) → count < 1 → resolved (part_of job base count) ≡ base
  early zero lt = fun_ext (λ h. as_before base base rest.unmarked h refl)
  early (suc count) lt = absurd (omega (arith, lt))

  pub late : (count : ℕ) → 1 ≤ count → count ≤ 1 → resolved (part_of job base count) ≡ next
  late zero ge le = absurd (omega (arith, ge))
  late (suc zero) ge le = after_first
  late (suc (suc count)) ge le = absurd (omega (arith, le))

  -- ---- slots: the clone has none

  was : (h i cluster : ℕ) (m : Meta) → next h ≡ Some m → slot m i ≡ Some cluster → base h ≡ Some m
  was h i cluster m = given_cases base head new (λ q o. o ≡ Some m → slot m i ≡ Some cluster → base q ≡ Some m) h
      (λ is at. let one : new ≡ m = cc is in
      let bad : None ≡ Some cluster =
      sym (empty_slot (length old.map) i) ∙ ap (λ (x : Meta). slot x i) one ∙ at in
      absurd (cc bad))
      (λ ne is at. is)

  -- ---- parents

  pub not_new : (h p : ℕ) (m : Meta) → base h ≡ Some m → parent_of m ≡ Some p → p ≢ head
  not_new = orphan f base rest head clear.none

  abbrev IsParent : ℕ → Type 0
  IsParent p = (m : Meta) × (next p ≡ Some m) × (is_read_only m.flags ≡ true)

  parents : is_read_only old.flags ≡ true → (h p : ℕ) (m : Meta) → next h ≡ Some m → parent_of m ≡ Some p → IsParent p
  parents on h p m = given_cases base head new (λ q o. o ≡ Some m → parent_of m ≡ Some p → IsParent p) h
      (λ is parent. let one : new ≡ m = cc is in
      let both : Some of ≡ Some p = sym parent_new ∙ ap parent_of one ∙ parent in
      let e : of ≡ p = cc both in
      (old, ap next (sym e) ∙ given_elsewhere base head new of apart ∙ there, on))
      (λ ne is parent.
      let up = law.parents h p m is parent in
      (up.0, given_elsewhere base head new p (not_new h p m is parent) ∙ up.1, up.2))

  -- ---- ranks: the clone comes in right above its parent

  abbrev rank : ℕ → ℕ
  rank h = if h == head then law.rank of + 1 else law.rank h

  rank_head : (h : ℕ) → h ≡ head → rank h ≡ law.rank of + 1
  rank_head h e = rw (eq-eqb h head e) refl

  rank_else : (h : ℕ) → h ≢ head → rank h ≡ law.rank h
  rank_else h ne = rw (ne_eqb h head ne) refl

  falls : (h p : ℕ) (m : Meta) → next h ≡ Some m → parent_of m ≡ Some p → rank p < rank h
  falls h p m = given_cases base head new (λ q o. o ≡ Some m → parent_of m ≡ Some p → rank p < rank q) h
      (λ is parent. let one : new ≡ m = cc is in
      let both : Some of ≡ Some p = sym parent_new ∙ ap parent_of one ∙ parent in
      let e : of ≡ p = cc both in
      let left : rank p ≡ law.rank of = ap rank (sym e) ∙ rank_else of apart in
      let right = rank_head head refl in
      omega (arith, left, right))
      (λ ne is parent.
      let less = law.falls h p m is parent in
      let left = rank_else p (not_new h p m is parent) in
      let right = rank_else h ne in
      omega (arith, less, left, right))

  pub lawful : is_read_only old.flags ≡ true → slots_together f.md_len base + length old.map ≤ 2 ^ 24
      → IsLawful f.md_len next
  lawful on room = record {
    alone = λ h k i j cluster m n hm kn si sj.
        law.alone h k i j cluster m n (was h i cluster m hm si) (was k j cluster n kn sj) si sj;
    parents = parents on;
    rank = rank;
    falls = falls;
    few =
        let sum = slots_given f.md_len base head new clear.low in
        let none : slots_in (base head) ≡ 0 = ap slots_in clear.none in
        let long = long_new in
        omega (arith, sum, none, long, room);
  }
