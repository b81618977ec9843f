use Rattle.std.proofs.Common.{◌≡◌, ◌∙◌, ◌++◌, ℕ, List, ap, refl, rules, subst}
use Rattle.page_disk.specs.Disk.{Rose}
use Rattle.listing_text.specs.Formats.{listing_text}
use Rattle.streams.specs.Printing.{IsPartOf}
use Rattle.blob_tool.proofs.ListingEnds.{unlisted}
use Rattle.blob_tool.proofs.listing.list_image.Goals as goal

pub returns-in-Err : goal.returns-in-Err
returns-in-Err g c =
    unlisted c.args.format g.D.PageDisk g.K.Sink c.args.out.now c.args.out.now c.args.disk c.in-Err.unloaded.1
    c.in-Err.unloaded.0 (record { quiet = refl; device = c.in-Err.ensures.reads }) c.in-Err.ensures.unloaded

pub returns-in-Ok-offer : goal.returns-in-Ok-offer
returns-in-Ok-offer g c =
    let e : c.deref.result.now ≡ listing_text c.args.format c.in-Ok.loaded = c.deref.ensures.value ∙ c.in-Ok-text.ensures in
    record {
      listed = record {
        loaded = c.in-Ok.loaded;
        found = c.in-Ok.ensures.found;
        device = c.disk_of-disk.ensures;
      };
      printed = λ t.
          c.in-Ok-offer.ensures.whole t ∙ ap (λ (text : List ℕ). g.K.Sink.written c.args.out.now ++ text) e;
    }

pub returns : goal.returns
returns g c =
    let e : c.deref.result.now ≡ listing_text c.args.format c.in-Ok.loaded = c.deref.ensures.value ∙ c.in-Ok-text.ensures in
    let rose : Rose (g.K.Sink.faults c.args.out.now) (g.K.Sink.faults c.offer.new.sink) = search rules in
    record {
      listed = record {
        loaded = c.in-Ok.loaded;
        found = c.in-Ok.ensures.found;
        device = c.disk_of-disk.ensures;
      };
      part = λ t.
          subst
          (λ (text : List ℕ). IsPartOf (g.K.Sink.written c.args.out.now) (g.K.Sink.written c.offer.new.sink) text) e
          (c.offer.ensures.part t);
      cause = rose;
    }
