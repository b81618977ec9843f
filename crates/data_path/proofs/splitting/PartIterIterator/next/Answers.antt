use Rattle.std.proofs.Common.{length, ◌≡◌, ◌<◌, ◌+◌, ◌-◌, ◌/◌, ◌%◌, ℕ, List, ◌∷◌, min, sym, ap, ◌∙◌, arith}
use Rattle.data_path.specs.declared.splitting.Part.{Part}
use Rattle.data_path.specs.Parts.{in_cluster, parts_of}
use Rattle.data_path.proofs.Splits.{next_part}
use Rattle.data_path.proofs.splitting.PartIterIterator.next.Goals as goal

-- the list of what is left, a part at a time
stepped : (k page count first_k slot_k more taken : ℕ) → 0 < k → 0 < count → first_k ≡ k → slot_k ≡ k → more ≡ taken
    → taken ≡ min count (k - page % first_k)
    → parts_of k count page count
    ≡ record { slot = page / slot_k; first = page % first_k; count = taken }
    ∷ parts_of k (count - taken) (page + more) (count - taken)
stepped k page count first_k slot_k more taken some any first slot same is =
    let n : taken ≡ in_cluster k page count = is ∙ ap (λ x. min count (k - page % x)) first in
    next_part k some count page count any (omega arith)
    ∙ ap (λ x. record { slot = page / k; first = page % k; count = x } ∷ parts_of k (count - x) (page + x) (count - x))
    (sym n)
    ∙ ap (λ x. record { slot = page / k; first = page % k; count = taken }
    ∷ parts_of k (count - taken) (page + x) (count - taken)) (sym same)
    ∙ ap (λ x. record { slot = page / k; first = page % x; count = taken }
    ∷ parts_of k (count - taken) (page + more) (count - taken)) (sym first)
    ∙ ap (λ x. record { slot = page / x; first = page % first_k; count = taken }
    ∷ parts_of k (count - taken) (page + more) (count - taken)) (sym slot)

pub returns-clause-steps : goal.returns-clause-steps
returns-clause-steps c =
    let it = c.self.inside in
    sym c.self.view_is
    ∙ stepped it.cluster_pages it.page it.count c.from.result c.from-2.result c.from-3.result c.min-count.result
    c.self.invariant.0 (let some = c.if-self-eq0.false in omega (arith, some)) c.from.ensures c.from-2.ensures
    c.from-3.ensures c.min-count.ensures

pub returns-clause-goes : goal.returns-clause-goes
returns-clause-goes c =
    let it = c.self.inside in
    let whole = sym c.self.view_is
    ∙ stepped it.cluster_pages it.page it.count c.from.result c.from-2.result c.from-3.result c.min-count.result
    c.self.invariant.0 (let some = c.if-self-eq0.false in omega (arith, some)) c.from.ensures c.from-2.ensures
    c.from-3.ensures c.min-count.ensures in
    let longer = ap (λ (l : List Part). length l) whole in
    record { on = λ finite. (tt, tt, omega (arith, longer)); keeps = tt; rests = λ finite. tt }
