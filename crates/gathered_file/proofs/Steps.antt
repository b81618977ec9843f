-- A step that makes no call, and one that makes a call more.
use Rattle.std.proofs.Common.{◌≡◌, ⊎_elim, inl, inr, ℕ, Bool, true, false, List, [], ◌∷◌, refl, sym, subst}
use Rattle.page_disk.specs.Disk.{Image}
use Rattle.file_disk.specs.FileCalls.{FileCall, may_leave, might_leave_since, ticks}
use Rattle.file_disk.specs.declared.page_calls.PageCalls.{Ghosts}
use Rattle.gathered_file.specs.Gathering.{Covers, EachMoment, Gathering, Gathers, IsStep}
use Rattle.gathered_file.proofs.Gathered.{at_entry, covers, passed_gathers}

module _ {C : Type 0} (c : Ghosts C) where
  -- none
  pub no_step : (old : Gathering C) → Covers (c.opened old.file) old.asked (c.calls old.file) → IsStep c old old
  no_step old covers = record {
    asked = refl;
    opened = refl;
    pages = refl;
    moments = at_entry (c.opened old.file) old.asked (c.calls old.file) covers;
  }

  -- one call more, which leaves what was asked for
  pub call_step : (old new : Gathering C) → new.asked ≡ old.asked → c.opened new.file ≡ c.opened old.file
      → c.pages new.file ≡ c.pages old.file → (call : FileCall) → c.calls new.file ≡ call ∷ c.calls old.file
      → Covers (c.opened old.file) old.asked (c.calls old.file)
      → Covers (c.opened old.file) old.asked (call ∷ c.calls old.file) → IsStep c old new
  call_step old new asked opened pages call calls before behind = record {
    asked = asked;
    opened = opened;
    pages = pages;
    moments = λ image left.
        let opened_as = c.opened old.file in
        let since : might_leave_since opened_as (call ∷ c.calls old.file) (ticks (c.calls old.file)) image =
        subst (λ made. might_leave_since opened_as made (ticks (c.calls old.file)) image) calls left in
        ⊎_elim (λ was. at_entry opened_as old.asked (c.calls old.file) before image was) (λ now. behind image now.1) since;
  }

  -- a call is passed on where nothing is kept
  pub passes : (before behind : C) (asked more : List FileCall) (start : ℕ) (kept : List (List ℕ)) (call : FileCall)
      → c.opened behind ≡ c.opened before → c.calls behind ≡ call ∷ c.calls before → more ≡ call ∷ asked → kept ≡ []
      → Gathers (c.opened before) asked (c.calls before) start kept
      → Gathers (c.opened behind) more (c.calls behind) start kept
  passes before behind asked more start kept call opened calls noted nothing gathers =
      rw (opened, calls, noted, nothing)
      (passed_gathers (c.opened before) asked (c.calls before) start
      (subst (λ pages. Gathers (c.opened before) asked (c.calls before) start pages) nothing gathers) call)

  -- a step, and a call that is passed on
  module _ (old between new : Gathering C) (step : IsStep c old between) (call : FileCall)
      (calls : c.calls new.file ≡ call ∷ c.calls between.file) (opened : c.opened new.file ≡ c.opened between.file)
      (noted : new.asked ≡ call ∷ between.asked) (nothing : between.kept ≡ [])
      (gathers : Gathers (c.opened between.file) between.asked (c.calls between.file) between.start between.kept) where
    behind : (image : Image) → may_leave (c.opened old.file) (call ∷ c.calls between.file) image
        → may_leave (c.opened old.file) new.asked image
    behind image left =
        let empty : Gathers (c.opened between.file) between.asked (c.calls between.file) between.start [] =
        subst (λ pages. Gathers (c.opened between.file) between.asked (c.calls between.file) between.start pages)
        nothing gathers in
        let over : Covers (c.opened between.file) (call ∷ between.asked) (call ∷ c.calls between.file) =
        covers (c.opened between.file) (call ∷ between.asked) (call ∷ c.calls between.file) between.start []
        (passed_gathers (c.opened between.file) between.asked (c.calls between.file) between.start empty call) in
        subst (λ bytes. may_leave bytes new.asked image) step.opened
        (subst (λ asked. may_leave (c.opened between.file) asked image) (sym noted)
        (over image (subst (λ bytes. may_leave bytes (call ∷ c.calls between.file) image) (sym step.opened) left)))

    pub step_and_call : EachMoment c old new
    step_and_call image left =
        let since : might_leave_since (c.opened old.file) (call ∷ c.calls between.file) (ticks (c.calls old.file)) image
        = subst (λ made. might_leave_since (c.opened old.file) made (ticks (c.calls old.file)) image) calls left in
        ⊎_elim (λ was. inl (step.moments image was)) (λ now. inr (behind image now.1)) since

-- a file that has stopped, and one that goes on
pub stopped_or_not : {A : Type 0} (b : Bool) → b ≡ true → b ≡ false → A
stopped_or_not b stopped going = cc
