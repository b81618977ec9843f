use Rattle.std.proofs.Common.{◌≡◌, ◌-◌}
use Rattle.std.specs.FinMap as map
use Rattle.blob_meta.specs.Pages.{place_read}
use Rattle.blob_meta.specs.SlotCounts.{HeadsFit}
use Rattle.blob_meta.proofs.page_places.place_read.Given as goal

abbrev pub invariant-loop-done : goal.invariant-loop-done
invariant-loop-done l = HeadsFit l.metas → place_read l.cluster_pages (map.get l.metas) l.times l.head l.page
    ≡ place_read l.cluster_pages (map.get l.metas) (l.times - l.done) l.at l.page
