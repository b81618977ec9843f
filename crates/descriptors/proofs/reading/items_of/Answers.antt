use Rattle.std.proofs.Common.{◌≡◌, ◌+◌, ◌-◌, List, Option, inl, inr, ◌<◌, ◌≤◌, ℕ, length, take, drop, get_or, refl, sym}
use Rattle.std.proofs.Common.{ap, ◌∙◌, subst, arith, None}
use Rattle.std.proofs.lemmas.List.{length-take-le, length-drop}
use Rattle.descriptors.specs.declared.item.Item.{Item}
use Rattle.descriptors.specs.declared.rows.RowFault.{RowFault}
use Rattle.descriptors.specs.declared.rows.RowFault.TheVariants.{Bad}
use Rattle.descriptors.specs.UnlessMemory.{FailsToGive}
use Rattle.descriptors.specs.Numbers.{number_from}
use Rattle.descriptors.specs.Grammar.{Descriptor}
use Rattle.descriptors.proofs.ReadingSteps.{reads_head, ItemsComplete, at_end, at_terminator, over_item, over_padding}
use Rattle.descriptors.proofs.ReadingSteps.{spoilt_over_item, spoilt_over_padding, spoilt_by_row, spoilt_by_size}
use Rattle.descriptors.proofs.reading.items_of.Goals as goal

pub returns-clause-found : goal.returns-clause-found
returns-clause-found c = at_end c.args.body.now c.loop-at.at c.loop-at.items c.loop-at.invariant.spelt (omega arith)

pub returns-then-size-eq0-clause-found : goal.returns-then-size-eq0-clause-found
returns-then-size-eq0-clause-found c =
    at_terminator c.args.body.now c.loop-at.at _ c.u32_at-size.result c.loop-at.items c.loop-at.invariant.spelt
    (omega arith) refl c.u32_at-size.ensures c.if-kind-eq0.true c.if-size-eq0.true

pub returns-then-size-body-clause-fault : goal.returns-then-size-body-clause-fault
returns-then-size-body-clause-fault c =
    spoilt_by_size c.args.body.now c.loop-at.at _ c.u32_at-size.result c.loop-at.invariant.spoilt (omega arith) refl
    c.u32_at-size.ensures (omega arith)

-- the bytes after the head, as the code cuts them
abbrev piece : List ℕ → ℕ → ℕ → List ℕ
piece b at size = take (at + 5 + size - (at + 5)) (drop (at + 5) b)

piece_head : (b : List ℕ) (at kind size : ℕ) → kind ≡ get_or b at 0 → size ≡ number_from (at + 1) 4 b
    → at + 5 + size ≤ length b → Descriptor (drop at b) kind (piece b at size) (drop (at + 5 + size) b)
piece_head b at kind size kind-is size-is fits = reads_head b at kind size (piece b at size) kind-is size-is fits
    (ap (λ (n : ℕ). take n (drop (at + 5) b)) (omega arith))

length-piece : (b : List ℕ) (at size : ℕ) → at + 5 + size ≤ length b → length (piece b at size) ≡ size
length-piece b at size fits = length-take-le (at + 5 + size - (at + 5)) (drop (at + 5) b)
    (omega (arith, length-drop (at + 5) b)) ∙ omega arith

bad_row : (e : RowFault) (read : Option Item) → e ≡ Bad → FailsToGive e read → read ≡ None
bad_row e read is h = let P : RowFault → Type 0 = λ f. FailsToGive f read in subst P is h

pub returns-in-Err-Bad-clause-fault : goal.returns-in-Err-Bad-clause-fault
returns-in-Err-Bad-clause-fault c =
    let b = c.args.body.now in
    let d = piece_head b c.loop-at.at _ c.u32_at-size.result refl c.u32_at-size.ensures (omega arith) in
    spoilt_by_row b c.loop-at.at _ c.u32_at-size.result (piece b c.loop-at.at c.u32_at-size.result)
    c.loop-at.invariant.spoilt (omega arith) (bad_row _ _ c.in-Err-Bad.field-0-is c.in-Err-Bad.ensures) d

pub loop-at-preserved-in_ok-push-in-Ok : goal.loop-at-preserved-in_ok-push-in-Ok
loop-at-preserved-in_ok-push-in-Ok c =
    let b = c.args.body.now in
    let at = c.loop-at.at in
    let size = c.u32_at-size.result in
    let d = piece_head b at _ size refl c.u32_at-size.ensures (omega arith) in
    record {
      within = omega arith;
      spelt = subst (ItemsComplete b (at + 5 + size)) (sym c.in_ok-push-in-Ok.ensures.ok)
          (over_item b at _ size (piece b at size) c.loop-at.items c.in-Ok.item c.loop-at.invariant.spelt (omega arith)
          c.in-Ok.ensures d);
      spoilt = spoilt_over_item b at _ size (piece b at size) c.in-Ok.item c.loop-at.invariant.spoilt (omega arith)
          c.in-Ok.ensures (length-piece b at size (omega arith)) d;
    }

pub loop-at-preserved : goal.loop-at-preserved
loop-at-preserved c =
    let b = c.args.body.now in
    let at = c.loop-at.at in
    let size = c.u32_at-size.result in
    let d = piece_head b at 0 size (sym c.if-kind-ne0.false) c.u32_at-size.ensures (omega arith) in
    let len : length (piece b at size) ≡ size = length-piece b at size (omega arith) in
    let some : 0 < size = elim c.else-kind-eq0.either [
      | inl w ↦ omega (arith, w.1)
      | inr w ↦
          absurd (w c.if-kind-ne0.false)
    ] in
    record {
      within = omega arith;
      spelt = over_padding b at size (piece b at size) c.loop-at.items c.loop-at.invariant.spelt (omega arith) d;
      spoilt = spoilt_over_padding b at size (piece b at size) c.loop-at.invariant.spoilt (omega arith) len d;
    }
