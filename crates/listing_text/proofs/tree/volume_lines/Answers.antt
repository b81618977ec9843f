use Rattle.std.proofs.Common.{◌≡◌, ℕ, List, map, arith}
use Rattle.super_block.specs.declared.page.Super.{Super}
use Rattle.blob_meta.proofs.HeadsThere.{up_to_end, up_to_next}
use Rattle.blob_report.specs.StoreText.{MetasByHead}
use Rattle.listing_text.proofs.Volumes.{no_place_more, one_place_more}
use Rattle.listing_text.specs.Drawing.{nodes_of}
use Rattle.listing_text.specs.Forest.{Node}
use Rattle.listing_text.specs.Listing.{volumes_below}
use Rattle.listing_text.specs.Tree.{node_by}
use Rattle.listing_text.proofs.tree.volume_lines.Goals as goal

abbrev HasThose : Super → MetasByHead → List Node → ℕ → Type 0
HasThose sup metas now end = now ≡ map node_by (volumes_below sup metas end)

pub loop-head-preserved : goal.loop-head-preserved
loop-head-preserved c =
    let sup : Super = c.args.sup.now in
    let metas : MetasByHead = c.args.metas.now in
    let before : List Node = nodes_of c.loop-head.lines.items in
    let low = c.in-Some.ensures.below in (
      omega (arith, low),
      one_place_more sup metas node_by c.in-Some.head before _
          (up_to_next metas (HasThose sup metas before) (no_place_more sup metas node_by before) c.loop-head.from
          c.in-Some.head c.in-Some.ensures.some c.loop-head.invariant.1)
          c.in_ok-push_line.ensures,
    )

pub returns : goal.returns
returns c =
    let sup : Super = c.args.sup.now in
    let metas : MetasByHead = c.args.metas.now in
    let now : List Node = nodes_of c.loop-head.lines.items in
    up_to_end metas (HasThose sup metas now) (no_place_more sup metas node_by now) c.loop-head.from sup.md_len
    c.loop-head.invariant.0 c.in_default.ensures.none c.loop-head.invariant.1
