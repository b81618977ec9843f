-- What the metadata is resolved to after each replacement of a snapshot's job.
use Rattle.std.proofs.Common.{◌≡◌, ◌≢◌, ℕ, zero, suc, ◌^◌, ◌<◌, ◌≤◌, true, false, Some, None, [], refl, sym, ap, ◌∙◌}
use Rattle.std.proofs.Common.{Option, length, inl, inr, arith, subst}
use Rattle.std.specs.Prelude.{codes}
use Rattle.std.proofs.lemmas.Bool.{cases_eq}
use Rattle.std.proofs.lemmas.List.{length-replicate}
use Rattle.std.proofs.Math.Path.{fun_ext}
use Rattle.volume_model.specs.Volumes.{Fixed, is_given_head}
use Rattle.volume_model.specs.Xattrs.{Xattrs}
use Rattle.blob_meta.specs.declared.job.Job.{Job}
use Rattle.blob_meta.specs.declared.meta.Meta.{Meta}
use Rattle.blob_meta.specs.Parents.{parent_of}
use Rattle.blob_meta.specs.Repairs.{HasNoMarks}
use Rattle.blob_meta.specs.Resolving.{mark_of, resolved, slots_together, without_marks}
use Rattle.blob_meta.proofs.Fates.{resolved_unmarked}
use Rattle.blob_meta.proofs.MarksLifted.{no_mark, same_parent}
use Rattle.snapshots.specs.Marks.{id_bytes, with_named}
use Rattle.snapshots.specs.SnapshotJobs.{begun_snapshot, emptied_volume, filled_snapshot, snapshot_job}
use Rattle.shown_volumes.specs.JobLaws.{IsClear}
use Rattle.shown_volumes.specs.Maps.{Metas, with_entry}
use Rattle.shown_volumes.specs.ShowsStep.{IsAtRest, part_of}
use Rattle.shown_volumes.proofs.Marked.{as_before, by_mark, given_other, given_same}
use Rattle.shown_volumes.proofs.SlotSums.{slots_at_most, slots_in}
use Rattle.shown_volumes.proofs.Valued.{mark_given, mark_named, parent_given, parent_named}
use Rattle.shown_volumes.proofs.WithEntry.{given_cases, given_elsewhere, given_here}

-- ---- metadata at rest

module _ (f : Fixed) (base : Metas) (rest : IsAtRest f base) where
  -- heads fit into ids
  pub low_head : (h : ℕ) (m : Meta) → base h ≡ Some m → h < 2 ^ 32
  low_head h m there =
      let low = rest.heads_below h (rw there refl) in let few = rest.few_heads in omega (arith, low, few)

  -- no blob has for its parent one that isn't there
  pub orphan : (head : ℕ) → base head ≡ None → (h p : ℕ) (m : Meta) → base h ≡ Some m → parent_of m ≡ Some p → p ≢ head
  orphan head none h p m there of e =
      let up = rest.lawful.parents h p m there of in
      let bad : None ≡ Some up.0 = sym none ∙ ap base (sym e) ∙ up.1 in
      absurd (cc bad)

-- ---- the job

module _ (f : Fixed) (base : Metas) (rest : IsAtRest f base) (of head : ℕ) (old : Meta) (xattrs : Xattrs)
    (there : base of ≡ Some old) (clear : IsClear f base head) where
  abbrev pub job : Job
  job = snapshot_job of old head xattrs

  abbrev begun : Meta
  begun = begun_snapshot of old head xattrs

  abbrev filled : Meta
  filled = filled_snapshot of old head xattrs

  abbrev pub made : Meta
  made = without_marks filled

  abbrev pub emptied : Meta
  emptied = emptied_volume old head

  -- the metadata from the commit on
  abbrev pub next : Metas
  next = with_entry (with_entry base of emptied) head made

  pub apart : of ≢ head
  apart e = let bad : None ≡ Some old = sym clear.none ∙ ap base (sym e) ∙ there in absurd (cc bad)

  pub low_of : of < 2 ^ 32
  low_of = low_head f base rest of old there

  pub parent_made : parent_of made ≡ parent_of old
  parent_made = same_parent filled ∙ parent_given (with_named [] (codes "SNAPTMP") of) old

  pub parent_emptied : parent_of emptied ≡ Some head
  parent_emptied = let low = clear.low in let few = rest.few_heads in
      parent_named old.internal head (omega (arith, low, few))

  mark_begun : mark_of begun ≡ Some (id_bytes of)
  mark_begun = refl

  mark_filled : mark_of filled ≡ Some (id_bytes of)
  mark_filled = mark_given (with_named [] (codes "SNAPTMP") of) old

  mark_emptied : mark_of emptied ≡ None
  mark_emptied = mark_named old.internal head ∙ rest.unmarked of old there

  not_child : is_given_head head (parent_of old) ≡ false
  not_child = given_other head (parent_of old) (λ e. orphan f base rest head clear.none of head old there e refl)

  -- the marked blob alone is gone, since the volume isn't its child
  undone : (metas : Metas) (m : Meta) → mark_of m ≡ Some (id_bytes of) → metas head ≡ Some m
      → ((h : ℕ) → h ≢ head → metas h ≡ base h) → resolved metas ≡ base
  undone metas m mark here others = fun_ext (λ h. elim (cases_eq h head) [
    | inl e ↦
        ap (resolved metas) e
        ∙ by_mark metas head of m old false low_of here mark (others of apart ∙ there) not_child
        ∙ sym clear.none ∙ ap base (sym e)
    | inr ne ↦ as_before base metas rest.unmarked h (others h ne)
  ])

  abbrev first : Metas
  first = with_entry base head begun

  abbrev second : Metas
  second = with_entry first head filled

  abbrev third : Metas
  third = with_entry second of emptied

  abbrev fourth : Metas
  fourth = with_entry third head made

  second_else : (h : ℕ) → h ≢ head → second h ≡ base h
  second_else h ne = given_elsewhere first head filled h ne ∙ given_elsewhere base head begun h ne

  -- from the commit on the snapshot is kept
  done : (metas : Metas) → metas of ≡ Some emptied → ((h : ℕ) → h ≢ head → h ≢ of → metas h ≡ base h)
      → resolved metas head ≡ Some made → resolved metas ≡ next
  done metas is_of others is_head = fun_ext (λ h. elim (cases_eq h head) [
    | inl e ↦ ap (resolved metas) e ∙ is_head ∙ sym (given_here (with_entry base of emptied) head made h e)
    | inr ne ↦ elim (cases_eq h of) [
      | inl e ↦
          ap (resolved metas) e ∙ resolved_unmarked metas of emptied is_of mark_emptied
          ∙ sym (given_elsewhere (with_entry base of emptied) head made h ne ∙ given_here base of emptied h e)
      | inr other ↦
          as_before base metas rest.unmarked h (others h ne other)
          ∙ sym (given_elsewhere (with_entry base of emptied) head made h ne ∙ given_elsewhere base of emptied h other)
    ]
  ])

  third_of : third of ≡ Some emptied
  third_of = given_here second of emptied of refl

  third_else : (h : ℕ) → h ≢ head → h ≢ of → third h ≡ base h
  third_else h ne other = given_elsewhere second of emptied h other ∙ second_else h ne

  third_head : third head ≡ Some filled
  third_head = given_elsewhere second of emptied head (λ e. apart (sym e)) ∙ given_here first head filled head refl

  after_third : resolved third ≡ next
  after_third = done third third_of third_else
      (by_mark third head of filled emptied true low_of third_head mark_filled third_of
      (ap (is_given_head head) parent_emptied ∙ given_same head))

  after_fourth : resolved fourth ≡ next
  after_fourth = done fourth (given_elsewhere third head made of apart ∙ third_of)
      (λ h ne other. given_elsewhere third head made h ne ∙ third_else h ne other)
      (resolved_unmarked fourth head made (given_here third head made head refl) (no_mark filled))

  pub early : (count : ℕ) → count < 3 → resolved (part_of job base count) ≡ base
  early zero lt = fun_ext (λ h. as_before base base rest.unmarked h refl)
  early (suc zero) lt = undone first begun mark_begun (given_here base head begun head refl)
      (λ h ne. given_elsewhere base head begun h ne)
  early (suc (suc zero)) lt = undone second filled mark_filled (given_here first head filled head refl) second_else
  early (suc (suc (suc count))) lt = absurd (omega (arith, lt))

  pub late : (count : ℕ) → 3 ≤ count → count ≤ 4 → resolved (part_of job base count) ≡ next
  late zero ge le = absurd (omega (arith, ge))
  late (suc zero) ge le = absurd (omega (arith, ge))
  late (suc (suc zero)) ge le = absurd (omega (arith, ge))
  late (suc (suc (suc zero))) ge le = after_third
  late (suc (suc (suc (suc zero)))) ge le = after_fourth
  late (suc (suc (suc (suc (suc count))))) ge le = absurd (omega (arith, le))

  -- in the end no blob is marked
  pub unmarked : HasNoMarks fourth
  unmarked h m = given_cases third head made (λ q o. o ≡ Some m → mark_of m ≡ None) h
      (λ is. let one : made ≡ m = cc is in subst (λ (n : Meta). mark_of n ≡ None) one (no_mark filled))
      (λ ne. given_cases second of emptied (λ q o. o ≡ Some m → mark_of m ≡ None) h
      (λ is. let one : emptied ≡ m = cc is in subst (λ (n : Meta). mark_of n ≡ None) one mark_emptied)
      (λ _ is. rest.unmarked h m (sym (second_else h ne) ∙ is)))

  -- ---- slots

  -- the snapshot, the volume and all others have as many slots as in the end, or fewer
  less : (metas : Metas) → slots_in (metas head) ≤ length old.map → slots_in (metas of) ≤ length old.map
      → ((h : ℕ) → h ≢ head → h ≢ of → metas h ≡ base h) → (h : ℕ) → slots_in (metas h) ≤ slots_in (next h)
  less metas at_head at_of others h = elim (cases_eq h head) [
    | inl e ↦
        let now : slots_in (metas h) ≡ slots_in (metas head) = ap (λ n. slots_in (metas n)) e in
        let then : slots_in (next h) ≡ length old.map =
        ap slots_in (given_here (with_entry base of emptied) head made h e) in
        omega (arith, now, then, at_head)
    | inr ne ↦ elim (cases_eq h of) [
      | inl e ↦
          let now : slots_in (metas h) ≡ slots_in (metas of) = ap (λ n. slots_in (metas n)) e in
          let then : slots_in (next h) ≡ length old.map =
          ap slots_in (given_elsewhere (with_entry base of emptied) head made h ne ∙ given_here base of emptied h e)
          ∙ length-replicate (length old.map) None in
          omega (arith, now, then, at_of)
      | inr other ↦
          let now : slots_in (metas h) ≡ slots_in (base h) = ap slots_in (others h ne other) in
          let then : slots_in (next h) ≡ slots_in (base h) =
          ap slots_in (given_elsewhere (with_entry base of emptied) head made h ne
          ∙ given_elsewhere base of emptied h other) in
          omega (arith, now, then)
    ]
  ]

  as_many : (o : Option Meta) (m : Meta) → o ≡ Some m → length m.map ≡ length old.map
      → slots_in o ≤ length old.map
  as_many o m is long = let same : slots_in o ≡ length m.map = ap slots_in is in omega (arith, same, long)

  base_head : slots_in (base head) ≤ length old.map
  base_head = let none : slots_in (base head) ≡ 0 = ap slots_in clear.none in omega (arith, none)

  base_of : slots_in (base of) ≤ length old.map
  base_of = as_many (base of) old there refl

  second_of : slots_in (second of) ≤ length old.map
  second_of = as_many (second of) old (second_else of apart ∙ there) refl

  long_begun : length begun.map ≡ length old.map
  long_begun = length-replicate (length old.map) None

  -- maps have few slots together after each replacement, if they have in the end
  pub few : slots_together f.md_len next ≤ 2 ^ 24 → (count : ℕ) → count ≤ 4
      → slots_together f.md_len (part_of job base count) ≤ 2 ^ 24
  few all count le = slots_at_most f.md_len next (part_of job base count) (by count le) all
    where
      by : (count : ℕ) → count ≤ 4 → (h : ℕ) → slots_in (part_of job base count h) ≤ slots_in (next h)
      by zero le = less base base_head base_of (λ h ne other. refl)
      by (suc zero) le = less first
          (as_many (first head) begun (given_here base head begun head refl) long_begun)
          (as_many (first of) old (given_elsewhere base head begun of apart ∙ there) refl)
          (λ h ne other. given_elsewhere base head begun h ne)
      by (suc (suc zero)) le = less second
          (as_many (second head) filled (given_here first head filled head refl) refl) second_of
          (λ h ne other. second_else h ne)
      by (suc (suc (suc zero))) le = less third (as_many (third head) filled third_head refl)
          (as_many (third of) emptied third_of (length-replicate (length old.map) None)) third_else
      by (suc (suc (suc (suc zero)))) le = less fourth
          (as_many (fourth head) made (given_here third head made head refl) refl)
          (as_many (fourth of) emptied (given_elsewhere third head made of apart ∙ third_of)
          (length-replicate (length old.map) None))
          (λ h ne other. given_elsewhere third head made h ne ∙ third_else h ne other)
      by (suc (suc (suc (suc (suc count))))) le = absurd (omega (arith, le))
