use Rattle.std.proofs.Common.{◌∙◌, ap, sym}
use Rattle.std.specs.Prelude.{option_copied}
use Rattle.std.specs.FinMap as map
use Rattle.store_core.proofs.UsedAtStart.{chain_is}
use Rattle.store_core.proofs.removed.add_blob.Goals as goal

pub add_places-requires : goal.add_places-requires
add_places-requires c place among =
    let chain = c.in-Some-get.chain.now in
    c.requires.fit.pages place (record {
      head = c.args.head;
      pages = chain;
      chain = chain_is (map.get c.args.blobs.now) (map.get c.args.chains.now) c.args.head c.in-Some.meta.now chain
          (sym c.get.ensures ∙ ap option_copied c.in-Some.is)
          (sym c.get-in-Some.ensures ∙ ap option_copied c.in-Some-get.is);
      among = among;
    })
