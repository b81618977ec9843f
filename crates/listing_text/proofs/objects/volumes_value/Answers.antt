use Rattle.std.proofs.Common.{◌≡◌, ℕ, List, ap, ◌∙◌, map, arith}
use Rattle.serde_json.specs.Data.{Data, array}
use Rattle.serde_json.specs.View.{items_of, view}
use Rattle.super_block.specs.declared.page.Super.{Super}
use Rattle.blob_meta.proofs.HeadsThere.{up_to_end, up_to_next}
use Rattle.blob_report.specs.StoreText.{MetasByHead}
use Rattle.listing_text.proofs.Volumes.{no_place_more, one_place_more}
use Rattle.listing_text.specs.Json.{volume_data}
use Rattle.listing_text.specs.Listing.{volumes_below}
use Rattle.listing_text.proofs.objects.volumes_value.Goals as goal

abbrev HasThose : Super → MetasByHead → List Data → ℕ → Type 0
HasThose sup metas now end = now ≡ map volume_data (volumes_below sup metas end)

pub loop-head-preserved : goal.loop-head-preserved
loop-head-preserved c =
    let sup : Super = c.args.sup.now in
    let metas : MetasByHead = c.args.metas.now in
    let before : List Data = map view c.loop-head.volumes.items in
    let low = c.in-Some.ensures.below in (
      omega (arith, low),
      one_place_more sup metas volume_data c.in-Some.head before _
          (up_to_next metas (HasThose sup metas before) (no_place_more sup metas volume_data before) c.loop-head.from
          c.in-Some.head c.in-Some.ensures.some c.loop-head.invariant.1)
          c.in_ok-push_volume.ensures,
    )

pub returns : goal.returns
returns c =
    let sup : Super = c.args.sup.now in
    let metas : MetasByHead = c.args.metas.now in
    let now : List Data = map view c.loop-head.volumes.items in
    c.from.ensures
    ∙ ap (λ ds. array (items_of ds))
    (up_to_end metas (HasThose sup metas now) (no_place_more sup metas volume_data now) c.loop-head.from sup.md_len
    c.loop-head.invariant.0 c.in_default.ensures.none c.loop-head.invariant.1)
