use Rattle.std.proofs.Common.{sym, subst}
use Rattle.blob_tool.specs.Loading.{IsNotLoaded}
use Rattle.blob_tool.proofs.FoundStore.{found_by}
use Rattle.blob_tool.proofs.NotLoaded.{not_loaded}
use Rattle.blob_tool.proofs.loading.load_store.Goals as goal

pub returns-in-Ok-clause-found : goal.returns-in-Ok-clause-found
returns-in-Ok-clause-found g c =
    found_by g.D.PageDisk c.args.disk c.in-Ok.loaded c.in-Ok.ensures.same c.in-Ok.ensures.super_block
    c.in-Ok.ensures.found c.in-Ok.ensures.quick c.in-Ok.ensures.accepted c.in-Ok.ensures.says c.in-Ok.ensures.recovered
    c.in-Ok.ensures.no_fault

pub returns-in-Err-clause-unloaded : goal.returns-in-Err-clause-unloaded
returns-in-Err-clause-unloaded g c =
    let d = g.D.PageDisk in
    subst (IsNotLoaded d c.args.disk c.in-Err.disk) (sym c.from.ensures)
    (not_loaded d c.args.disk c.in-Err.disk c.in-Err.fault c.in-Err.ensures.counted (λ of_image no_fault. record {
      of_image = of_image;
      first = c.in-Err.ensures.cause;
      refused = λ t. c.in-Err.ensures.refused t of_image;
      no_fault = no_fault;
    }))
