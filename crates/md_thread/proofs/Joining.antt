-- A command that is held waits where it has to.
use Rattle.std.proofs.Common.{◌≡◌, ◌⊎◌, Bool, true, false, List, [], ◌∷◌, ◌++◌, Option, Some, None, refl, sym, ap}
use Rattle.std.proofs.Common.{◌∙◌, subst, inl, inr}
use Rattle.std.specs.Prelude.{◌||◌, IsSome, not}
use Rattle.std.specs.Option.{option_map}
use Rattle.page_disk.specs.declared.disk.PageDisk.{Ghosts}
use Rattle.volume_model.specs.declared.reply.Msg.{Msg}
use Rattle.store_model.specs.Rows.{OpenClaim}
use Rattle.store_model.specs.StoreState.{StoreState}
use Rattle.running_store.specs.StoreView.{state_of, StoreView}
use Rattle.run_work.specs.Reading.{has_any, is_in_use, is_there}
use Rattle.run_work.specs.RunFacts.{in_queue, is_filled_for, is_held, is_waiting, IsOneOf, not_sent}
use Rattle.run_work.specs.Steps.{holds_command}
use Rattle.run_moves.specs.DrivenStore.{run_of}
use Rattle.run_moves.specs.FillTurns.{HoldsFill, worked_for}
use Rattle.run_moves.specs.Projection.{claim_in_run, stage_in_run}
use Rattle.md_thread.specs.Holding.{driven_by, IsKept, KeepsMessage, messages_by, MetadataState}
use Rattle.md_thread.specs.Turns.{HasJoined}
use Rattle.md_thread.proofs.StepsDue.{command_waits, held_alone, insert_held, none_held}

-- the messages once a command that is held waits
abbrev pub waiting_too : MetadataState → Msg → MetadataState
waiting_too s msg = record s { held = None; waiting = s.waiting ++ msg ∷ [] }

is_none : (o : Option Msg) → o ≡ None → is_there o ≡ false
is_none None is = refl
is_none (Some x) is = absurd (cc is)

module _ (p : StoreState) (s : MetadataState) where
  pub joined_none : s.held ≡ None → HasJoined p s s
  joined_none none unsent queue = sym (none_held p s unsent queue none)

  pub joined_alone : s.fill ≡ None → s.waiting ≡ [] → HasJoined p s s
  joined_alone none alone unsent queue =
      sym (held_alone p s unsent queue (is_none s.fill none) (ap (λ (l : List Msg). has_any l) alone))

  claimed : (o : Option OpenClaim) → IsSome o → not (is_there (option_map claim_in_run o)) ≡ false
  claimed None some = absurd (cc some)
  claimed (Some claim) some = refl

  unclaimed : (o : Option OpenClaim) → o ≡ None → not (is_there (option_map claim_in_run o)) ≡ true
  unclaimed None none = refl
  unclaimed (Some claim) none = absurd (cc none)

  pub joined_insert : (msg : Msg) → s.held ≡ Some msg → IsSome (p.rows msg.channel).claim → HasJoined p s s
  joined_insert msg held some unsent queue = sym (insert_held p s unsent queue
      (ap (λ o. holds_command (run_of (driven_by p s unsent queue)) o) held
      ∙ claimed (p.rows msg.channel).claim some))

  or_any : (fill : Option Msg) (waiting : List Msg) → (fill ≡ None → waiting ≡ [] → ⊥)
      → (is_there fill || has_any waiting) ≡ true
  or_any None [] some = absurd (some refl refl)
  or_any None (x ∷ l) some = refl
  or_any (Some x) waiting some = refl

  or_unused : (fill : Option Msg) (in_hand : Bool) → (fill ≡ None → in_hand ≡ false) → (is_there fill || not in_hand)
      ≡ true
  or_unused None in_hand free = ap (λ u. not u) (free refl)
  or_unused (Some x) in_hand free = refl

  pub joined_command : (msg : Msg) → s.held ≡ Some msg → p.job ≡ None
      → (s.fill ≡ None → is_in_use (stage_in_run (p.rows 16).stage) ≡ false)
      → (p.rows msg.channel).claim ≡ None → (s.fill ≡ None → s.waiting ≡ [] → ⊥)
      → HasJoined p s (waiting_too s msg)
  joined_command msg held none free command some unsent queue = sym (command_waits p s unsent queue msg held none
      (or_unused s.fill (is_in_use (stage_in_run (p.rows 16).stage)) free)
      (ap (λ o. holds_command (run_of (driven_by p s unsent queue)) o) held
      ∙ unclaimed (p.rows msg.channel).claim command) (or_any s.fill s.waiting some))

-- one that stands behind others is one of them, or the one behind
behind : (m msg : Msg) (l : List Msg) → IsOneOf m (l ++ msg ∷ []) → IsOneOf m l ⊎ (msg ≡ m)
behind m msg [] (inl e) = inr e
behind m msg [] (inr none) = absurd none
behind m msg (x ∷ l) (inl e) = inl (inl e)
behind m msg (x ∷ l) (inr rest) = elim (behind m msg l rest) [
  | inl is ↦ inl (inr is)
  | inr e ↦ inr e
]

still_keeps : (s : MetadataState) (msg m : Msg) → s.held ≡ Some msg → KeepsMessage (waiting_too s msg) m
    → KeepsMessage s m
still_keeps s msg m held (not_sent is) = absurd (cc is)
still_keeps s msg m held (in_queue is) = absurd is
still_keeps s msg m held (is_held is) = absurd (cc is)
still_keeps s msg m held (is_waiting is) = elim (behind m msg s.waiting is) [
  | inl one ↦ is_waiting one
  | inr e ↦ is_held (held ∙ ap Some e)
]
still_keeps s msg m held (is_filled_for is) = is_filled_for is

-- the command that the fill's row works for is that of the fill, where it works for none without a fill
works_still : (p : StoreState) (s t : MetadataState) → t.fill ≡ s.fill → (s.fill ≡ None → p.filling ≡ None)
    → HoldsFill p (messages_by s (λ k. None) []) → HoldsFill p (messages_by t (λ k. None) [])
works_still p s t same free works channel is = go s.fill refl
  where
    go : (o : Option Msg) → s.fill ≡ o
        → (message : Msg) × (worked_for t.fill t.held ≡ Some message) × (message.channel ≡ channel)
    go None none = let bad : None ≡ Some channel = sym (free none) ∙ is in absurd (cc bad)
    go (Some x) fills =
        let y = works channel is in
        (y.0, ap (λ o. worked_for o t.held) (same ∙ fills) ∙ sym (ap (λ o. worked_for o s.held) fills) ∙ y.1, y.2)

pub kept_waiting : {D : Type 0} (d : Ghosts D) (p : StoreView D) (s : MetadataState) (msg : Msg) → s.held ≡ Some msg
    → (s.fill ≡ None → p.filling ≡ None) → IsKept d p s → IsKept d p (waiting_too s msg)
kept_waiting d p s msg held free kept = record {
  current = λ m keeps. kept.current m (still_keeps s msg m held keeps);
  asked = kept.asked;
  works = works_still (state_of d p) s (waiting_too s msg) refl free kept.works;
}

-- once a message is taken out the others are kept
pub kept_without_held : {D : Type 0} (d : Ghosts D) (p : StoreView D) (s : MetadataState)
    → (s.fill ≡ None → p.filling ≡ None) → IsKept d p s → IsKept d p (record s { held = None })
kept_without_held d p s free kept = record {
  current = λ m keeps. kept.current m (by m keeps);
  asked = kept.asked;
  works = works_still (state_of d p) s (record s { held = None }) refl free kept.works;
}
  where
    by : (m : Msg) → KeepsMessage (record s { held = None }) m → KeepsMessage s m
    by m (not_sent is) = absurd (cc is)
    by m (in_queue is) = absurd is
    by m (is_held is) = absurd (cc is)
    by m (is_waiting is) = is_waiting is
    by m (is_filled_for is) = is_filled_for is

pub kept_without_first : {D : Type 0} (d : Ghosts D) (p : StoreView D) (s : MetadataState) (msg : Msg)
    (rest : List Msg) → s.waiting ≡ msg ∷ rest → IsKept d p s → IsKept d p (record s { waiting = rest })
kept_without_first d p s msg rest waits kept = record {
  current = λ m keeps. kept.current m (by m keeps);
  asked = kept.asked;
  works = kept.works;
}
  where
    by : (m : Msg) → KeepsMessage (record s { waiting = rest }) m → KeepsMessage s m
    by m (not_sent is) = absurd (cc is)
    by m (in_queue is) = absurd is
    by m (is_held is) = is_held is
    by m (is_waiting is) = is_waiting (subst (IsOneOf m) (sym waits) (inr is))
    by m (is_filled_for is) = is_filled_for is
