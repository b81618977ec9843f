-- The blob that a job froze is released: none is frozen then.
use Rattle.std.proofs.Common.{◌≡◌, ℕ, Bool, false, length, [], Option, Some, None, refl, sym, ◌∙◌, ap, inl, inr}
use Rattle.std.specs.Prelude.{if◌then◌else◌, not, ◌&&◌, ◌==◌}
use Rattle.std.specs.Cmp.{nat_cmp_total}
use Rattle.std.specs.FinSet as set
use Rattle.std.proofs.Math.Path.{fun_ext}
use Rattle.std.proofs.lemmas.Bool.{cases_eq, eq-eqb, ne_eqb}
use Rattle.page_disk.specs.declared.disk.PageDisk.{Ghosts}
use Rattle.io_freeze.specs.Guards.{GuardsState}
use Rattle.store_model.specs.Guarding.{frozen_behind, releasing, IsGuarded}
use Rattle.store_model.specs.StoreState.{JobState, StoreState}
use Rattle.store_model.specs.Turning.{stopped_now}
use Rattle.store_model.proofs.Guarding.{guarded_behind, none_frozen}
use Rattle.running_store.specs.Places.{thawed}
use Rattle.running_store.specs.Steps.{freeze_in, stopped_here}
use Rattle.running_store.specs.StoreView.{state_of, StoreView}
use Rattle.running_store.proofs.Maps.{is_key}

-- as the model says it
pub released_is : (guards : GuardsState) (freeze : Option ℕ)
    → set.contains (thawed guards freeze).frozen ≡ releasing (set.contains guards.frozen) freeze
released_is guards None = refl
released_is guards (Some head) = fun_ext (λ k.
    set.contains-remove nat_cmp_total guards.frozen head k
    ∙ ap (λ b. not b && set.contains guards.frozen k) (is_key k head)
    ∙ elim (cases_eq k head) as (λ _. (not (k == head) && set.contains guards.frozen k)
    ≡ (if k == head then false else set.contains guards.frozen k)) [
      | inl e ↦ rw (eq-eqb k head e) refl
      | inr ne ↦ rw (ne_eqb k head ne) refl
    ])

module _ (s : StoreState) (guarded : IsGuarded s) (guards : GuardsState)
    (frozen : s.frozen ≡ set.contains guards.frozen) where
  -- no other blob was frozen
  pub none_frozen_then : s.stopped ≡ None → (j : JobState) → s.job ≡ Some j
      → set.contains (thawed guards j.freeze).frozen ≡ (λ head. false)
  none_frozen_then runs j is =
      released_is guards j.freeze ∙ ap (λ (f : ℕ → Bool). releasing f j.freeze) (sym frozen)
      ∙ fun_ext (none_frozen (record s { job = None; frozen = frozen_behind s.frozen j [] })
      (guarded_behind s (record s { job = None; frozen = frozen_behind s.frozen j [] }) guarded j j is refl runs []
      refl refl) refl)

  -- so it is whether a job runs or not, and where the store has stopped before
  pub all_thawed : (job : Option JobState) → s.job ≡ job
      → set.contains (thawed guards (freeze_in job)).frozen ≡ (λ head. false)
  all_thawed None is = sym frozen ∙ fun_ext (none_frozen s guarded is)
  all_thawed (Some j) is = by s.stopped refl
    where
      none_released : (o : Option ℕ) → releasing (λ head. false) o ≡ (λ head. false)
      none_released None = refl
      none_released (Some blob) = fun_ext (λ head. elim (cases_eq head blob) [
        | inl e ↦ rw (eq-eqb head blob e) refl
        | inr ne ↦ rw (ne_eqb head blob ne) refl
      ])

      by : (at : Option ℕ) → s.stopped ≡ at → set.contains (thawed guards j.freeze).frozen ≡ (λ head. false)
      by None runs = none_frozen_then runs j is
      by (Some at) halts =
          released_is guards j.freeze
          ∙ ap (λ (f : ℕ → Bool). releasing f j.freeze) (sym frozen ∙ fun_ext (guarded.stopped at halts))
          ∙ none_released j.freeze

-- the state as a channel's turn stops the store
pub state_stopped : {D : Type 0} (d : Ghosts D) (p : StoreView D)
    → set.contains (thawed p.guards (freeze_in p.job)).frozen ≡ (λ head. false)
    → state_of d (stopped_here p) ≡ stopped_now (state_of d p)
state_stopped {D = D} d p none = by (freeze_in p.job) none
  where
    by : (o : Option ℕ) → set.contains (thawed p.guards o).frozen ≡ (λ head. false)
        → state_of d (record p { stopped = Some (length p.log); guards = thawed p.guards o })
        ≡ stopped_now (state_of d p)
    by None none = ap (λ (f : ℕ → Bool). record (state_of d p) { stopped = Some (length p.log); frozen = f }) none
    by (Some head) none =
        ap (λ (f : ℕ → Bool). record (state_of d p) { stopped = Some (length p.log); frozen = f }) none
