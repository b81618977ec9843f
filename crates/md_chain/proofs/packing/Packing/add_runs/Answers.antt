use Rattle.std.proofs.Common.{◌≡◌, ◌++◌, ◌∷◌, [], ◌-◌, ◌/◌, map, subst, ap, ◌∙◌}
use Rattle.std.specs.Prelude.{List, ℕ, OnOk}
use Rattle.descriptors.specs.declared.item.Item.{Item}
use Rattle.md_chain.specs.declared.packing.Packing.{Packing}
use Rattle.md_chain.specs.Packing.{pieces, on_page, run_parts}
use Rattle.md_chain.specs.Laid.{laid}
use Rattle.md_chain.proofs.RunPieces.{same_page, new_page}
use Rattle.md_chain.proofs.packing.Packing.add_runs.Goals as goal
use Rattle.md_chain.proofs.packing.Packing.add_runs.Goals.{then-self-lt-ONE_RUN+in_ok-turn_page, else-self-lt-ONE_RUN}

pub returns : goal.returns
returns c =
    let old = c.args.self.now in
    let now = c.if-self-lt-ONE_RUN.self in
    let runs = c.args.runs.now in
    let same : laid now.full now.current (map on_page (pieces ((now.room - 5) / 8) runs))
    ≡ laid old.full old.current (run_parts old.room runs) = elim c.if-self-lt-ONE_RUN.branch [
      | then-self-lt-ONE_RUN+in_ok-turn_page w ↦
          let full : now.full ≡ old.full ++ old.current ∷ [] =
          ap (λ (p : Packing). p.full) w.self-is ∙ w.in_ok-turn_page.ensures.full in
          let current : now.current ≡ [] = ap (λ (p : Packing). p.current) w.self-is
          ∙ w.in_ok-turn_page.ensures.current in
          let room : now.room ≡ 4072 = ap (λ (p : Packing). p.room) w.self-is ∙ w.in_ok-turn_page.ensures.room in
          ap (λ (f : List (List Item)). laid f now.current (map on_page (pieces ((now.room - 5) / 8) runs))) full
          ∙ ap (λ (x : List Item). laid (old.full ++ old.current ∷ []) x
          (map on_page (pieces ((now.room - 5) / 8) runs))) current
          ∙ ap (λ (n : ℕ). laid (old.full ++ old.current ∷ []) [] (map on_page (pieces ((n - 5) / 8) runs))) room
          ∙ new_page old.full old.current old.room runs w.if-self-lt-ONE_RUN.true
      | else-self-lt-ONE_RUN w ↦ ap (λ (p : Packing).
          laid p.full p.current (map on_page (pieces ((p.room - 5) / 8) runs))) w.self-is
          ∙ same_page old.full old.current old.room runs w.if-self-lt-ONE_RUN.false
    ] in
    subst (λ (x : List (List Item)). OnOk c.put_runs.result
    (c.put_runs.new.self.full ++ c.put_runs.new.self.current ∷ [] ≡ x)) same c.put_runs.ensures
