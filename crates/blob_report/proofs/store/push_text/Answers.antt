use Rattle.std.proofs.Common.{◌≡◌, ◌++◌, ℕ, ◌+◌, List, None, arith}
use Rattle.std.specs.FinMap as map
use Rattle.std.specs.List.{flat_map, range_with_len}
use Rattle.super_block.specs.declared.page.Super.{Super}
use Rattle.blob_meta.proofs.HeadsThere.{up_to_end, up_to_next}
use Rattle.blob_report.proofs.Firsts.{still_first}
use Rattle.blob_report.proofs.StoreTexts.{begun, no_blob_line, no_line_more, one_more}
use Rattle.blob_report.specs.StoreText.{MetasByHead, store_line, super_text, volume_text}
use Rattle.blob_report.proofs.store.push_text.Goals as goal

module _ (sup : Super) (metas : MetasByHead) (before first now : List ℕ) where
  -- the lines of the volumes below a place
  abbrev HasLines : ℕ → Type 0
  HasLines end = now ≡ before ++ (first ++ flat_map (volume_text sup metas) (range_with_len 0 end))

  skips : (head : ℕ) → map.get metas head ≡ None → HasLines head → HasLines (head + 1)
  skips head none = no_line_more (volume_text sup metas) head before first now (no_blob_line sup metas head none)

pub returns-in_err-push_super_line-clause-kept : goal.returns-in_err-push_super_line-clause-kept
returns-in_err-push_super_line-clause-kept c =
    still_first _ _ _ _ c.in_ok-push_store.ensures.ok c.push_super_line.ensures.kept

pub returns-in_err-push_volume_line-clause-kept : goal.returns-in_err-push_volume_line-clause-kept
returns-in_err-push_volume_line-clause-kept c =
    still_first _ _ _ _ c.loop-head.invariant.1 c.push_volume_line.ensures.kept

pub loop-head-init : goal.loop-head-init
loop-head-init c = (
  omega arith,
  begun _ _ _ _ _ c.in_ok-push_store.ensures.ok c.in_ok-push_super_line.ensures.ok,
)

pub loop-head-preserved : goal.loop-head-preserved
loop-head-preserved c =
    let sup : Super = c.args.sup.now in
    let metas : MetasByHead = c.args.metas.now in
    let first : List ℕ = store_line sup c.args.masks.now ++ super_text sup metas in
    let before : List ℕ = c.args.into.now.items in
    let now : List ℕ = c.loop-head.into.items in
    let head : ℕ = c.in-Some.head in
    let low = c.in-Some.ensures.below in (
      omega (arith, low),
      one_more (volume_text sup metas) head before first now c.push_volume_line.new.into.items
          (up_to_next metas (HasLines sup metas before first now) (skips sup metas before first now) c.loop-head.from
          head c.in-Some.ensures.some c.loop-head.invariant.1)
          c.in_ok-push_volume_line.ensures.ok,
    )

pub returns-clause-ok : goal.returns-clause-ok
returns-clause-ok c =
    let sup : Super = c.args.sup.now in
    let metas : MetasByHead = c.args.metas.now in
    let first : List ℕ = store_line sup c.args.masks.now ++ super_text sup metas in
    let before : List ℕ = c.args.into.now.items in
    let now : List ℕ = c.loop-head.into.items in
    up_to_end metas (HasLines sup metas before first now) (skips sup metas before first now) c.loop-head.from sup.md_len
    c.loop-head.invariant.0 c.in_default.ensures.none c.loop-head.invariant.1
