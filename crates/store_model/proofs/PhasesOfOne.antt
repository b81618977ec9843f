-- The phases of one replacement, with those that come behind them, or of a job that has no other.
use Rattle.std.proofs.Common.{◌≡◌, ◌≢◌, ◌++◌, false, ℕ, List, [], ◌∷◌, Option, None, Some, refl, sym, ap, ◌∙◌}
use Rattle.std.proofs.lemmas.List.{append-nil}
use Rattle.page_disk.specs.Disk.{Image}
use Rattle.super_block.specs.declared.page.Super.{Super}
use Rattle.volume_model.specs.Xattrs.{Xattrs}
use Rattle.volume_model.specs.declared.command.Command.{Command}
use Rattle.store_model.specs.Jobs.{Anything, CanReplace, Does, IsStep, IsUnseen, Keeps, Lays}
use Rattle.store_model.specs.Maps.{Chains, Map, Metas}
use Rattle.store_model.specs.Phases.{behind, Committing, erasing, has_commit, held_in, Phase, phases_of, rechained}
use Rattle.store_model.specs.Phases.{replaced, Replaces, Replacing, taken_by, taken_in, writing}
use Rattle.store_model.proofs.Phases.{commit_old, does_behind, does_old, held_behind, held_old, keeps_behind, keeps_old}
use Rattle.store_model.proofs.Phases.{lays_behind, lays_old, leads_behind, leads_old, taken_behind, taken_old}

module _ (r : Replacing) (commit : Option Committing) (others : List Phase) where
  abbrev from_head : List Phase
  from_head = Replaces r commit ∷ erasing r.old r.old others

  -- what they hold is what the replacement takes, and what the others take
  pub held_phases : held_in (phases_of r commit others) ≡ taken_by r ++ taken_in others
  held_phases = held_behind r.fresh from_head ∙ ap (λ l. taken_by r ++ l) (taken_old r.old r.old others)

  pub taken_phases : taken_in (phases_of r commit others) ≡ taken_by r ++ taken_in others
  taken_phases = taken_behind r.fresh from_head ∙ ap (λ l. taken_by r ++ l) (taken_old r.old r.old others)

  -- they lead to the metadata once it is made
  pub leads_phases : (base : Metas) → behind base (phases_of r commit others) ≡ behind (replaced base r) others
  leads_phases base = leads_behind base r.fresh from_head ∙ leads_old (replaced base r) r.old r.old others

  -- they can be done if it can be made, and what comes behind it
  pub lays_phases : (s : Super) (base : Metas) (chains : Chains) (claimed : List ℕ)
      → CanReplace s base chains claimed r.fresh r → held_in others ≡ taken_in others
      → Lays s (replaced base r) (rechained chains r) [] [] others
      → Lays s base chains claimed [] (phases_of r commit others)
  lays_phases s base chains claimed can begin lays =
      lays_behind s base chains claimed [] r.fresh from_head (
        can,
        held_old r.old r.old others (λ e. e) begin ∙ ap (λ l. r.old ++ l) (sym (taken_old r.old r.old others)),
        lays_old s (replaced base r) (rechained chains r) r.old r.old others (λ x among. among) begin lays,
      )

  -- and there is one
  pub some_phase : phases_of r commit others ≢ []
  some_phase = by r.fresh
    where
      by : (fresh : List ℕ) → writing fresh from_head ≢ []
      by [] e = cc e
      by (x ∷ xs) e = cc e

-- a replacement that isn't seen
module _ (base : Metas) (r : Replacing) (others : List Phase) (unseen : IsUnseen base r) where
  pub keeps_phases : Keeps (replaced base r) others → Keeps base (phases_of r None others)
  keeps_phases keeps = keeps_behind base r.fresh (Replaces r None ∷ erasing r.old r.old others)
      (unseen, keeps_old (replaced base r) r.old r.old others keeps)

  pub does_phases : (Holds : Image → Type 0) (s : Super) (live : Map Xattrs) (command : Command)
      → Does Anything s (replaced base r) live command others
      → Does Holds s base live command (phases_of r None others)
  does_phases Holds s live command does =
      does_behind Holds s base live command r.fresh (Replaces r None ∷ erasing r.old r.old others)
      (unseen, does_old Anything s (replaced base r) live command r.old r.old others does)

-- one that is the commit
pub commits_phases : (Holds : Image → Type 0) (s : Super) (base : Metas) (live : Map Xattrs) (command : Command)
    (r : Replacing) (commit : Committing) (others : List Phase) → IsStep Holds s base r live command commit
    → has_commit others ≡ false → Keeps (replaced base r) others
    → Does Holds s base live command (phases_of r (Some commit) others)
commits_phases Holds s base live command r commit others step none keeps =
    does_behind Holds s base live command r.fresh (Replaces r (Some commit) ∷ erasing r.old r.old others)
    (step, commit_old r.old r.old others ∙ none, keeps_old (replaced base r) r.old r.old others keeps)

-- ---- of a job that has no other

module _ (r : Replacing) (commit : Option Committing) where
  pub held_one : held_in (phases_of r commit []) ≡ taken_by r
  held_one = held_phases r commit [] ∙ append-nil (taken_by r)

  pub leads_one : (base : Metas) → behind base (phases_of r commit []) ≡ replaced base r
  leads_one = leads_phases r commit []

  pub lays_one : (s : Super) (base : Metas) (chains : Chains) (claimed : List ℕ)
      → CanReplace s base chains claimed r.fresh r → Lays s base chains claimed [] (phases_of r commit [])
  lays_one s base chains claimed can = lays_phases r commit [] s base chains claimed can refl (refl, refl)
