use Rattle.std.proofs.Common.{ℕ, ap, sym, ◌∙◌, ◌+◌}
use Rattle.std.specs.FinMap as map
use Rattle.blob_meta.proofs.MapOfEntries.{len-entries}
use Rattle.blob_meta.proofs.head_map.HeadMap.room.Goals as goal

pub returns : goal.returns
returns g c =
    c.in_ok-with_capacity.ensures.exact
    ∙ ap (λ (n : ℕ). n + 1)
    (c.len.ensures ∙ c.self.inside.entries.ok.0
    ∙ sym (len-entries c.self.inside.entries.items c.self.invariant.in_order) ∙ ap map.len c.self.view_is)
