-- What the metadata is resolved to after each replacement of a delete's job, of a blob with one clone.
use Rattle.std.proofs.Common.{◌≡◌, ◌≢◌, ℕ, zero, suc, ◌+◌, ◌*◌, ◌/◌, ◌^◌, ◌<◌, ◌≤◌, true, false, Some, None, refl}
use Rattle.std.proofs.Common.{Option, length, [], ◌∷◌, subst, sym, ap, ◌∙◌, inl, inr, arith}
use Rattle.std.specs.Prelude.{codes}
use Rattle.std.specs.Option.{option_map_or}
use Rattle.std.proofs.lemmas.Bool.{cases_eq}
use Rattle.std.proofs.lemmas.Bool.Decides.{nat_tests}
use Rattle.std.proofs.Math.Path.{fun_ext}
use Rattle.volume_model.specs.Volumes.{Fixed, is_given_head}
use Rattle.volume_model.specs.Xattrs.{Text, Xattrs, value_of, without}
use Rattle.blob_meta.specs.declared.job.Job.{Job}
use Rattle.blob_meta.specs.declared.meta.Meta.{Meta}
use Rattle.blob_meta.specs.Parents.{is_locked, is_read_only, parent_of}
use Rattle.blob_meta.specs.Repairs.{HasNoMarks}
use Rattle.blob_meta.specs.Resolving.{IsLawful, mark_of, resolved, slots_together, without_marks}
use Rattle.blob_meta.proofs.Fates.{resolved_absent, resolved_unmarked}
use Rattle.blob_meta.proofs.ResolvedBlobs.{not_made, not_removed}
use Rattle.snapshots.specs.Marks.{id_bytes, with_named}
use Rattle.inflate_delete.specs.Clones.{clones_below}
use Rattle.inflate_delete.specs.DeleteJobs.{delete_job, going_blob, heir_of}
use Rattle.shown_volumes.specs.Maps.{Metas, with_entry, without_entry}
use Rattle.shown_volumes.specs.ShowsStep.{IsAtRest, part_of}
use Rattle.shown_volumes.proofs.Childless.{counted_parent, one_counted}
use Rattle.shown_volumes.proofs.HeirMaps.{long_over}
use Rattle.shown_volumes.proofs.Marked.{as_before, by_mark, given_other, given_same}
use Rattle.shown_volumes.proofs.SnapshotParts.{low_head}
use Rattle.shown_volumes.proofs.SlotSums.{slots_at_most, slots_in}
use Rattle.volume_model.proofs.Told.{value_set}
use Rattle.shown_volumes.proofs.Valued.{mark_given, parent_given, without_none, without_set}
use Rattle.shown_volumes.proofs.WithEntry.{given_cases, given_elsewhere, given_here, gone_elsewhere, gone_here}

module _ (f : Fixed) (base : Metas) (rest : IsAtRest f base) (of clone : ℕ) (old heir : Meta)
    (there : base of ≡ Some old) (there_too : base clone ≡ Some heir)
    (one : clones_below f.md_len base of ≡ clone ∷ []) (unlocked : is_locked old.flags ≡ false) where
  abbrev law : IsLawful f.md_len base
  law = rest.lawful

  abbrev pub job : Job
  job = delete_job of old clone heir

  abbrev going : Meta
  going = going_blob old clone

  abbrev pub taking : Meta
  taking = heir_of heir old

  -- the metadata from the commit on
  abbrev pub next : Metas
  next = without_entry (with_entry base clone taking) of

  pub child : parent_of heir ≡ Some of
  child = counted_parent f.md_len base of clone heir one there_too

  pub only : (h : ℕ) (m : Meta) → base h ≡ Some m → parent_of m ≡ Some of → h ≡ clone
  only h m is parent = one_counted f.md_len base of clone one h m is (rest.heads_below h (rw is refl)) parent

  pub apart : clone ≢ of
  apart e = let less = law.falls clone of heir there_too child in let same = ap law.rank e in
      absurd (omega (arith, less, same))

  -- the parent of the blob is neither the blob nor its clone
  pub not_self : (p : ℕ) → parent_of old ≡ Some p → p ≢ of
  not_self p parent e = let less = law.falls of p old there parent in let same = ap law.rank e in
      absurd (omega (arith, less, same))

  pub parent_taking : parent_of taking ≡ parent_of old
  parent_taking = parent_given heir.internal old

  mark_taking : mark_of taking ≡ None
  mark_taking = mark_given heir.internal old ∙ rest.unmarked clone heir there_too

  mark_going : mark_of going ≡ Some (id_bytes clone)
  mark_going = ap (λ o. option_map_or (λ (bytes : Text). Some bytes) o
      (value_of (with_named old.internal (codes "SNAPRM") clone) (codes "SNAPTMP")))
      (value_set old.internal (codes "SNAPRM") (id_bytes clone))

  -- ---- while the blob is its clone's parent, its mark can be lifted

  resolved_old : resolved base of ≡ Some old
  resolved_old = as_before base base rest.unmarked of refl ∙ there

  read_only : is_read_only old.flags ≡ true
  read_only =
      let up = law.parents clone of heir there_too child in
      let both : Some up.0 ≡ Some old = sym up.1 ∙ there in
      let same : up.0 ≡ old = cc both in
      ap (λ (m : Meta). is_read_only m.flags) (sym same) ∙ up.2

  bit_is : old.flags.data_ro / 2 * 2 + 1 ≡ old.flags.data_ro
  bit_is = let one_bit : old.flags.data_ro ≡ 1 = grind (arith, nat_tests, unlocked, read_only) in
      omega (arith, one_bit)

  internal_is : without (without (with_named old.internal (codes "SNAPRM") clone) (codes "SNAPRM")) (codes "SNAPTMP")
      ≡ old.internal
  internal_is =
      ap (λ (xs : Xattrs). without xs (codes "SNAPTMP"))
      (without_set old.internal (codes "SNAPRM") (id_bytes clone) (not_removed base of old resolved_old))
      ∙ without_none old.internal (codes "SNAPTMP") (not_made base of old resolved_old)

  lifted : without_marks going ≡ old
  lifted = λ i. record old { internal = internal_is i; flags = record old.flags { data_ro = bit_is i } }

  -- ---- the parts

  low_clone : clone < 2 ^ 32
  low_clone = low_head f base rest clone heir there_too

  abbrev first : Metas
  first = with_entry base of going

  abbrev second : Metas
  second = with_entry first clone taking

  abbrev third : Metas
  third = without_entry second of

  after_first : resolved first ≡ base
  after_first = fun_ext (λ h. elim (cases_eq h of) [
    | inl e ↦
        ap (resolved first) e
        ∙ by_mark first of clone going heir true low_clone (given_here base of going of refl) mark_going
        (given_elsewhere base of going clone apart ∙ there_too) (ap (is_given_head of) child ∙ given_same of)
        ∙ ap (λ (m : Meta). Some m) lifted ∙ sym there ∙ ap base (sym e)
    | inr ne ↦ as_before base first rest.unmarked h (given_elsewhere base of going h ne)
  ])

  -- what the clone and all others have from the commit on
  next_clone : next clone ≡ Some taking
  next_clone = gone_elsewhere (with_entry base clone taking) of clone apart ∙ given_here base clone taking clone refl

  next_else : (h : ℕ) → h ≢ of → h ≢ clone → next h ≡ base h
  next_else h ne other = gone_elsewhere (with_entry base clone taking) of h ne
      ∙ given_elsewhere base clone taking h other

  done : (metas : Metas) → resolved metas of ≡ None → metas clone ≡ Some taking
      → ((h : ℕ) → h ≢ of → h ≢ clone → metas h ≡ base h) → resolved metas ≡ next
  done metas gone is others = fun_ext (λ h. elim (cases_eq h of) [
    | inl e ↦ ap (resolved metas) e ∙ gone ∙ sym (gone_here (with_entry base clone taking) of h e)
    | inr ne ↦ elim (cases_eq h clone) [
      | inl e ↦ ap (resolved metas) e ∙ resolved_unmarked metas clone taking is mark_taking ∙ sym next_clone
          ∙ ap next (sym e)
      | inr other ↦ as_before base metas rest.unmarked h (others h ne other) ∙ sym (next_else h ne other)
    ]
  ])

  second_else : (h : ℕ) → h ≢ of → h ≢ clone → second h ≡ base h
  second_else h ne other = given_elsewhere first clone taking h other ∙ given_elsewhere base of going h ne

  second_of : second of ≡ Some going
  second_of = given_elsewhere first clone taking of (λ e. apart (sym e)) ∙ given_here base of going of refl

  second_clone : second clone ≡ Some taking
  second_clone = given_here first clone taking clone refl

  after_second : resolved second ≡ next
  after_second = done second
      (by_mark second of clone going taking false low_clone second_of mark_going second_clone
      (ap (is_given_head of) parent_taking ∙ given_other of (parent_of old) (λ e. not_self of e refl)))
      second_clone second_else

  after_third : resolved third ≡ next
  after_third = done third (resolved_absent third of (gone_here second of of refl))
      (gone_elsewhere second of clone apart ∙ second_clone)
      (λ h ne other. gone_elsewhere second of h ne ∙ second_else h ne other)

  pub early : (count : ℕ) → count < 2 → resolved (part_of job base count) ≡ base
  early zero lt = fun_ext (λ h. as_before base base rest.unmarked h refl)
  early (suc zero) lt = after_first
  early (suc (suc count)) lt = absurd (omega (arith, lt))

  pub late : (count : ℕ) → 2 ≤ count → count ≤ 3 → resolved (part_of job base count) ≡ next
  late zero ge le = absurd (omega (arith, ge))
  late (suc zero) ge le = absurd (omega (arith, ge))
  late (suc (suc zero)) ge le = after_second
  late (suc (suc (suc zero))) ge le = after_third
  late (suc (suc (suc (suc count)))) ge le = absurd (omega (arith, le))

  -- in the end no blob is marked
  pub unmarked : HasNoMarks third
  unmarked h m is = elim (cases_eq h of) [
    | inl e ↦ let bad : None ≡ Some m = sym (gone_here second of h e) ∙ is in absurd (cc bad)
    | inr ne ↦ given_cases first clone taking (λ q o. o ≡ Some m → mark_of m ≡ None) h
        (λ took. let one : taking ≡ m = cc took in subst (λ (n : Meta). mark_of n ≡ None) one mark_taking)
        (λ _ was. rest.unmarked h m (sym (given_elsewhere base of going h ne) ∙ was))
        (sym (gone_elsewhere second of h ne) ∙ is)
  ]

  -- ---- slots

  -- the blob, its clone and all others have as many slots as they had, or none
  less : (metas : Metas) → slots_in (metas of) ≤ length old.map → slots_in (metas clone) ≤ length heir.map
      → ((h : ℕ) → h ≢ of → h ≢ clone → metas h ≡ base h) → (h : ℕ) → slots_in (metas h) ≤ slots_in (base h)
  less metas at_of at_clone others h = elim (cases_eq h of) [
    | inl e ↦
        let now : slots_in (metas h) ≡ slots_in (metas of) = ap (λ n. slots_in (metas n)) e in
        let was : slots_in (base h) ≡ length old.map = ap slots_in (ap base e ∙ there) in
        omega (arith, now, was, at_of)
    | inr ne ↦ elim (cases_eq h clone) [
      | inl e ↦
          let now : slots_in (metas h) ≡ slots_in (metas clone) = ap (λ n. slots_in (metas n)) e in
          let was : slots_in (base h) ≡ length heir.map = ap slots_in (ap base e ∙ there_too) in
          omega (arith, now, was, at_clone)
      | inr other ↦
          let now : slots_in (metas h) ≡ slots_in (base h) = ap slots_in (others h ne other) in omega (arith, now)
    ]
  ]

  at_most : (o : Option Meta) (n slots : ℕ) → slots_in o ≡ n → n ≤ slots → slots_in o ≤ slots
  at_most o n slots is le = omega (arith, is, le)

  first_clone : first clone ≡ Some heir
  first_clone = given_elsewhere base of going clone apart ∙ there_too

  third_clone : third clone ≡ Some taking
  third_clone = gone_elsewhere second of clone apart ∙ second_clone

  -- maps have few slots together after each replacement, as they had
  pub few : (count : ℕ) → count ≤ 3 → slots_together f.md_len (part_of job base count) ≤ 2 ^ 24
  few count le = slots_at_most f.md_len base (part_of job base count) (by count le) law.few
    where
      long : length taking.map ≤ length heir.map
      long = let same = long_over heir old in omega (arith, same)

      by : (count : ℕ) → count ≤ 3 → (h : ℕ) → slots_in (part_of job base count h) ≤ slots_in (base h)
      by zero le = λ h. omega arith
      by (suc zero) le = less first
          (at_most (first of) (length old.map) _ (ap slots_in (given_here base of going of refl)) (omega arith))
          (at_most (first clone) (length heir.map) _ (ap slots_in first_clone) (omega arith))
          (λ h ne other. given_elsewhere base of going h ne)
      by (suc (suc zero)) le = less second
          (at_most (second of) (length old.map) _ (ap slots_in second_of) (omega arith))
          (at_most (second clone) (length taking.map) _ (ap slots_in second_clone) long) second_else
      by (suc (suc (suc zero))) le = less third
          (at_most (third of) 0 _ (ap slots_in (gone_here second of of refl)) (omega arith))
          (at_most (third clone) (length taking.map) _ (ap slots_in third_clone) long)
          (λ h ne other. gone_elsewhere second of h ne ∙ second_else h ne other)
      by (suc (suc (suc (suc count)))) le = absurd (omega (arith, le))
