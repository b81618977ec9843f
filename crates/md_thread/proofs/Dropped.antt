-- What is left where the message that comes next is dropped.
use Rattle.std.proofs.Common.{◌≡◌, List, ◌∷◌, Option, None, Some, refl, sym, ap, ◌∙◌}
use Rattle.volume_model.specs.declared.reply.Msg.{Msg}
use Rattle.md_thread.specs.Holding.{MetadataState, waiting_behind, without_next}

module _ (s : MetadataState) (msg : Msg) where
  -- where it was held
  pub held_away : s.held ≡ Some msg → record s { held = None } ≡ without_next s
  held_away held = ap (λ (l : List Msg). record s { held = None; waiting = l }) (same s.held held)
    where
      same : (o : Option Msg) → o ≡ Some msg → s.waiting ≡ waiting_behind o s.waiting
      same None is = absurd (cc is)
      same (Some other) is = refl

  -- where it was the first that waits
  pub first_away : s.held ≡ None → (rest : List Msg) → s.waiting ≡ msg ∷ rest
      → record s { waiting = rest } ≡ without_next s
  first_away none rest waits = ap (λ (o : Option Msg). record s { held = o; waiting = rest }) none
      ∙ ap (λ (l : List Msg). record s { held = None; waiting = l })
      (sym (ap (λ (o : Option Msg). waiting_behind o s.waiting) none
      ∙ ap (λ (l : List Msg). waiting_behind None l) waits))
