use Rattle.std.proofs.Common.{◌≡◌, ◌∙◌, ap, refl, subst, rules, ℕ, eqb}
use Rattle.std.specs.Prelude.{OnOk}
use Rattle.std.specs.Cmp.{nat_eq_equiv}
use Rattle.std.specs.Map.{lookup, update_all}
use Rattle.std.specs.Map.Iter.{deref_pair}
use Rattle.std.proofs.lemmas.Iterator.Consumers.{YieldsList-from_rest}
use Rattle.std.proofs.lemmas.Iterator.Adapters.{fact_from_extend}
use Rattle.std.proofs.lemmas.Map.Made.{update_all_none}
use Rattle.page_disk.proofs.Crashed.{base_image-same}
use Rattle.page_disk.proofs.crash.copy_of.Goals as goal

pub returns : goal.returns
returns c =
    let base = c.args.base.now.entries in
    let Same : Type 0 = (q : ℕ) → lookup (eqb q) c.extend.new.self.entries ≡ lookup (eqb q) base in
    let copied : OnOk c.extend.result Same =
    fact_from_extend deref_pair c.extend.result c.extend.ensures.ran (λ it b. YieldsList-from_rest base (search rules))
    (λ xs e h q. h.0 q ∙ ap (λ l. update_all eqb (λ p. lookup (eqb p) c.in_ok-copy.copy.entries) l q) e
    ∙ ap (λ l. update_all eqb (λ p. lookup (eqb p) l) base q) c.in_ok-copy.ensures.empty
    ∙ update_all_none nat_eq_equiv eqb (λ _ _. refl) base q c.len.ensures.unique) in
    base_image-same base c.extend.new.self.entries (subst (λ r. OnOk r Same) c.in_ok-extend.was copied)
