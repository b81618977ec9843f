-- One blob gets another parent, from further up, or none, while its map stays: what that is resolved to, and that it is
-- lawful.
use Rattle.std.proofs.Common.{◌≡◌, ℕ, zero, suc, ◌^◌, ◌<◌, ◌≤◌, true, Some, None, length, refl, sym, ap, ◌∙◌}
use Rattle.std.proofs.Common.{List, Option, subst, inl, inr, arith}
use Rattle.std.proofs.lemmas.Bool.{cases_eq}
use Rattle.std.proofs.Math.Path.{fun_ext}
use Rattle.volume_model.specs.Volumes.{Fixed}
use Rattle.volume_model.specs.Xattrs.{Xattrs}
use Rattle.blob_meta.specs.declared.job.Job.{Job}
use Rattle.blob_meta.specs.declared.meta.Meta.{Meta}
use Rattle.blob_meta.specs.Jobs.{job_of_one}
use Rattle.blob_meta.specs.Parents.{is_read_only, parent_of, slot}
use Rattle.blob_meta.specs.Repairs.{HasNoMarks}
use Rattle.blob_meta.specs.Resolving.{IsLawful, mark_of, resolved, slots_together}
use Rattle.blob_meta.proofs.Fates.{resolved_unmarked}
use Rattle.shown_volumes.specs.Maps.{Metas, with_entry}
use Rattle.shown_volumes.specs.ShowsStep.{IsAtRest, part_of}
use Rattle.shown_volumes.proofs.Marked.{as_before}
use Rattle.shown_volumes.proofs.SlotSums.{slots_given, slots_in}
use Rattle.shown_volumes.proofs.Valued.{mark_in, parent_in}
use Rattle.shown_volumes.proofs.WithEntry.{given_cases, given_elsewhere, given_here}

-- a blob with other internal attributes, and thin or thick by another number
abbrev pub altered : Meta → ℕ → Xattrs → Meta
altered old invalid internal = record old {
  flags = record old.flags { invalid = invalid };
  internal = internal;
}

-- The parent that they name is there, is read-only, and is below the blob in rank; they are no mark.
pub record IsRaised (f : Fixed) (base : Metas) (rest : IsAtRest f base) (of : ℕ) (internal : Xattrs) : Type 0 where
  pub unmarked : mark_in internal ≡ None
  pub above : (p : ℕ) → parent_in internal ≡ Some p
      → (m : Meta) × (base p ≡ Some m) × (is_read_only m.flags ≡ true)
  pub falls : (p : ℕ) → parent_in internal ≡ Some p → rest.lawful.rank p < rest.lawful.rank of

module _ (f : Fixed) (base : Metas) (rest : IsAtRest f base) (of : ℕ) (old : Meta) (invalid : ℕ) (internal : Xattrs)
    (there : base of ≡ Some old) (raised : IsRaised f base rest of internal) where
  abbrev law : IsLawful f.md_len base
  law = rest.lawful

  abbrev pub new : Meta
  new = altered old invalid internal

  abbrev pub job : Job
  job = job_of_one of new

  abbrev pub next : Metas
  next = with_entry base of new

  is_new : next of ≡ Some new
  is_new = given_here base of new of refl

  -- ---- what the parts of the job are resolved to

  after_first : resolved next ≡ next
  after_first = fun_ext (λ h. elim (cases_eq h of) [
    | inl e ↦ ap (resolved next) e ∙ resolved_unmarked next of new is_new raised.unmarked
        ∙ sym (given_here base of new h e)
    | inr ne ↦ as_before base next rest.unmarked h (given_elsewhere base of new h ne)
        ∙ sym (given_elsewhere base of new h ne)
  ])

  pub early : (count : ℕ) → count < 1 → resolved (part_of job base count) ≡ base
  early zero lt = fun_ext (λ h. as_before base base rest.unmarked h refl)
  early (suc count) lt = absurd (omega (arith, lt))

  pub late : (count : ℕ) → 1 ≤ count → count ≤ 1 → resolved (part_of job base count) ≡ next
  late zero ge le = absurd (omega (arith, ge))
  late (suc zero) ge le = after_first
  late (suc (suc count)) ge le = absurd (omega (arith, le))

  pub unmarked : HasNoMarks (part_of job base 1)
  unmarked h m = given_cases base of new (λ q o. o ≡ Some m → mark_of m ≡ None) h
      (λ is. let one : new ≡ m = cc is in subst (λ (n : Meta). mark_of n ≡ None) one raised.unmarked)
      (λ _ is. rest.unmarked h m is)

  -- ---- slots: each blob has the map that it had

  was : (h : ℕ) (m : Meta) → next h ≡ Some m → (n : Meta) × (base h ≡ Some n) × (n.map ≡ m.map)
  was h m = given_cases base of new
      (λ q o. o ≡ Some m → (n : Meta) × (base q ≡ Some n) × (n.map ≡ m.map)) h
      (λ is. let one : new ≡ m = cc is in (old, there, ap (λ (x : Meta). x.map) one)) (λ _ is. (m, is, refl))

  pub long : (p : ℕ) → slots_in (next p) ≡ slots_in (base p)
  long p = elim (cases_eq p of) [
    | inl e ↦ ap slots_in (given_here base of new p e) ∙ sym (ap slots_in (ap base e ∙ there))
    | inr ne ↦ ap slots_in (given_elsewhere base of new p ne)
  ]

  alone : (h k i j cluster : ℕ) (m n : Meta) → next h ≡ Some m → next k ≡ Some n → slot m i ≡ Some cluster
      → slot n j ≡ Some cluster → (h ≡ k) × (i ≡ j)
  alone h k i j cluster m n hm kn si sj =
      let a = was h m hm in
      let b = was k n kn in
      law.alone h k i j cluster a.0 b.0 a.1 b.1 (slot_was a.0 m a.2 i ∙ si) (slot_was b.0 n b.2 j ∙ sj)
    where
      slot_was : (x y : Meta) → x.map ≡ y.map → (i : ℕ) → slot x i ≡ slot y i
      slot_was x y same i = ap (λ (map : List (Option ℕ)). slot (record x { map = map }) i) same

  -- ---- parents

  abbrev IsParent : ℕ → Type 0
  IsParent p = (m : Meta) × (next p ≡ Some m) × (is_read_only m.flags ≡ true)

  still : (p : ℕ) (m : Meta) → base p ≡ Some m → is_read_only m.flags ≡ true → IsParent p
  still p m is on = elim (cases_eq p of) [
    | inl e ↦
        let both : Some m ≡ Some old = sym is ∙ ap base e ∙ there in
        let same : m ≡ old = cc both in
        (new, given_here base of new p e, ap (λ (x : Meta). is_read_only x.flags) (sym same) ∙ on)
    | inr ne ↦ (m, given_elsewhere base of new p ne ∙ is, on)
  ]

  parents : (h p : ℕ) (m : Meta) → next h ≡ Some m → parent_of m ≡ Some p → IsParent p
  parents h p m = given_cases base of new (λ q o. o ≡ Some m → parent_of m ≡ Some p → IsParent p) h
      (λ is parent. let one : new ≡ m = cc is in
      let up = raised.above p (ap parent_of one ∙ parent) in still p up.0 up.1 up.2)
      (λ _ is parent. let up = law.parents h p m is parent in still p up.0 up.1 up.2)

  falls : (h p : ℕ) (m : Meta) → next h ≡ Some m → parent_of m ≡ Some p → law.rank p < law.rank h
  falls h p m = given_cases base of new
      (λ q o. o ≡ Some m → parent_of m ≡ Some p → law.rank p < law.rank q) h
      (λ is parent. let one : new ≡ m = cc is in raised.falls p (ap parent_of one ∙ parent))
      (λ _ is parent. law.falls h p m is parent)

  pub lawful : IsLawful f.md_len next
  lawful = record {
    alone = alone;
    parents = parents;
    rank = law.rank;
    falls = falls;
    few =
        let sum = slots_given f.md_len base of new (rest.heads_below of (rw there refl)) in
        let had : slots_in (base of) ≡ length old.map = ap slots_in there in
        let few = law.few in
        omega (arith, sum, had, few);
  }

  -- the slots are few before and after
  pub few : (count : ℕ) → count ≤ 1 → slots_together f.md_len (part_of job base count) ≤ 2 ^ 24
  few zero le = law.few
  few (suc zero) le = lawful.few
  few (suc (suc count)) le = absurd (omega (arith, le))
