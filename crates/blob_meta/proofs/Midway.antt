-- Metadata in the middle of its repairs resolves as it did before them.
use Rattle.std.proofs.Common.{◌≡◌, ℕ, Bool, true, false, Option, Some, None, refl, sym, ap, ◌∙◌, subst}
use Rattle.std.proofs.Common.{◌⊎◌, inl, inr}
use Rattle.std.specs.Option.{option_map_or, option_and_then}
use Rattle.volume_model.specs.Volumes.{is_given_head}
use Rattle.blob_meta.specs.declared.meta.Meta.{Meta}
use Rattle.blob_meta.specs.Parents.{named_in, parent_of}
use Rattle.blob_meta.specs.Resolving.{mark_of, is_kept, resolved, without_marks}
use Rattle.blob_meta.proofs.MarksLifted.{no_mark, same_parent}
use Rattle.blob_meta.proofs.Fates.{IsMarked, Fate, fate, resolved_absent, resolved_unmarked}
use Rattle.blob_meta.proofs.Fates.{resolved_marked}

-- each head has what it had, or what is resolved there; no blob is erased before all kept marks are lifted
pub record IsMidway (metas now : ℕ → Option Meta) : Type 0 where
  pub each : (h : ℕ) → (now h ≡ metas h) ⊎ (now h ≡ resolved metas h)
  pub order : (c : ℕ) → IsMarked metas c false → now c ≡ None → (h : ℕ) → IsMarked metas h true
      → now h ≡ resolved metas h

module _ (metas now : ℕ → Option Meta) (mid : IsMidway metas now) where
  -- the blob that a mark names is there, and has the marked one for its parent
  abbrev is_child : ℕ → Option Meta → Bool
  is_child h o = option_map_or (λ m. is_given_head h (parent_of m)) o false

  -- a kept mark that isn't lifted yet: no blob is erased
  none_erased : (h : ℕ) → now h ≡ metas h → IsMarked metas h true → (c : ℕ) → IsMarked metas c false → now c ≡ None → ⊥
  none_erased h same x c removed gone =
      let lifted : Some x.blob ≡ Some (without_marks x.blob) =
      sym x.there ∙ sym same ∙ mid.order c removed gone h x ∙ x.gives in
      let one : x.blob ≡ without_marks x.blob = cc (lifted) in
      let none : mark_of x.blob ≡ None = ap mark_of one ∙ no_mark x.blob in
      let bad : Some x.mark ≡ None = sym x.marked ∙ none in
      absurd (cc (bad))

  -- the blob that a mark names is judged as before
  named_alike : (h c : ℕ) (b : Bool) → is_child h (metas c) ≡ b → (b ≡ true → IsMarked metas c false → now c ≡ None → ⊥)
      → is_child h (now c) ≡ b
  named_alike h c b was never = at (mid.each c)
    where
      erased : (t : Bool) → b ≡ t → IsMarked metas c false → now c ≡ None → is_child h (now c) ≡ b
      erased true is x gone = absurd (never is x gone)
      erased false is x gone = ap (is_child h) gone ∙ sym is

      resolved_there : now c ≡ resolved metas c → Fate metas c → is_child h (now c) ≡ b
      resolved_there e (inl x) = ap (is_child h) (e ∙ x.gives ∙ sym x.there) ∙ was
      resolved_there e (inr (inl x)) = ap (is_child h) (e ∙ x.gives ∙ sym x.there) ∙ was
      resolved_there e (inr (inr (inl x))) = ap (is_child h) (e ∙ x.gives)
          ∙ ap (is_given_head h) (same_parent x.blob) ∙ sym (ap (is_child h) x.there) ∙ was
      resolved_there e (inr (inr (inr x))) = erased b refl x (e ∙ x.gives)

      at : (now c ≡ metas c) ⊎ (now c ≡ resolved metas c) → is_child h (now c) ≡ b
      at (inl e) = ap (is_child h) e ∙ was
      at (inr e) = resolved_there e (fate metas c)

  judged_alike : (h : ℕ) (b : Bool) → now h ≡ metas h → (x : IsMarked metas h b) → is_kept now h x.mark ≡ b
  judged_alike h b same x = at (named_in x.mark) refl
    where
      never : (c : ℕ) → b ≡ true → IsMarked metas c false → now c ≡ None → ⊥
      never c is removed gone = none_erased h same (subst (λ (t : Bool). IsMarked metas h t) is x) c removed gone

      at : (o : Option ℕ) → named_in x.mark ≡ o → is_kept now h x.mark ≡ b
      at None none = ap (λ o. is_child h (option_and_then now o)) none
          ∙ sym (ap (λ o. is_child h (option_and_then metas o)) none) ∙ x.judged
      at (Some c) names = ap (λ o. is_child h (option_and_then now o)) names
          ∙ named_alike h c b (sym (ap (λ o. is_child h (option_and_then metas o)) names) ∙ x.judged) (never c)

  -- resolving gives the same
  pub midway_same : (h : ℕ) → resolved now h ≡ resolved metas h
  midway_same h = at (mid.each h) (fate metas h)
    where
      marked : (b : Bool) → now h ≡ metas h → IsMarked metas h b → resolved now h ≡ resolved metas h
      marked b same x = resolved_marked now h x.blob x.mark b (same ∙ x.there) x.marked (judged_alike h b same x)
          ∙ sym x.gives

      at : (now h ≡ metas h) ⊎ (now h ≡ resolved metas h) → Fate metas h → resolved now h ≡ resolved metas h
      at (inl e) (inl x) = resolved_absent now h (e ∙ x.there) ∙ sym x.gives
      at (inl e) (inr (inl x)) = resolved_unmarked now h x.blob (e ∙ x.there) x.unmarked ∙ sym x.gives
      at (inl e) (inr (inr (inl x))) = marked true e x
      at (inl e) (inr (inr (inr x))) = marked false e x
      at (inr e) (inl x) = resolved_absent now h (e ∙ x.gives) ∙ sym x.gives
      at (inr e) (inr (inl x)) = resolved_unmarked now h x.blob (e ∙ x.gives) x.unmarked ∙ sym x.gives
      at (inr e) (inr (inr (inl x))) =
          resolved_unmarked now h (without_marks x.blob) (e ∙ x.gives) (no_mark x.blob) ∙ sym x.gives
      at (inr e) (inr (inr (inr x))) = resolved_absent now h (e ∙ x.gives) ∙ sym x.gives
