use Rattle.std.proofs.Common.{◌↔◌, subst, IsTrue}
use Rattle.blob_meta.specs.Repairs.{HasNoMarks}
use Rattle.running_store.specs.StoreView.{base_of, WithOpening}
use Rattle.store_core.proofs.plant.Plant.is_unmarked.Goals as goal

pub returns : goal.returns
returns g c =
    subst (λ (b : WithOpening g.row.D.Denot). IsTrue c.is_unmarked.result ↔ HasNoMarks (base_of b.at.metas b.at.marked))
    c.self.view_is c.is_unmarked.ensures
