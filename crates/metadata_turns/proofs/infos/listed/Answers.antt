use Rattle.std.proofs.Common.{◌≡◌, ◌+◌, ◌++◌, ◌∷◌, [], ℕ, List, None, Some, Option, inl, inr, refl, ap, sym, ◌∙◌, arith}
use Rattle.std.specs.List.{filter_map, range_with_len, cons_option}
use Rattle.std.specs.Ordering.{nat_cmp}
use Rattle.std.specs.FinMap as map
use Rattle.std.proofs.lemmas.Bool.{cases_Bool}
use Rattle.std.proofs.lemmas.List.{append-nil}
use Rattle.super_block.specs.declared.page.Super.{Super}
use Rattle.volume_model.specs.Volumes.{is_given_head}
use Rattle.volume_model.specs.Xattrs.{Xattrs}
use Rattle.volume_model.specs.declared.reply.Info.{Info}
use Rattle.volume_model.proofs.Heads.{filter_map_range_more}
use Rattle.blob_meta.specs.Parents.{head_of_id}
use Rattle.blob_meta.specs.declared.meta.Meta.{Meta}
use Rattle.blob_meta.proofs.HeadsThere.{up_to_end, up_to_next}
use Rattle.metadata_turns.specs.Infos.{listed_at}
use Rattle.metadata_turns.proofs.infos.listed.Goals as goal
use Rattle.metadata_turns.proofs.infos.listed.Goals.{in-Some-2+in_ok-push, in_default-2}

module _ (metas : map.FinMap nat_cmp Meta) (live : map.FinMap nat_cmp Xattrs) (sup : Super) (infos : List Info) where
  -- the list tells of the heads below a place
  abbrev AreOf : ℕ → Type 0
  AreOf end = infos ≡ filter_map (listed_at metas live sup) (range_with_len 0 end)

  -- of a place where no blob is it tells nothing
  nothing_at : (head : ℕ) → listed_at metas live sup head ≡ None → AreOf head → AreOf (head + 1)
  nothing_at head none are =
      are ∙ sym (append-nil _) ∙ ap (λ (o : Option Info).
      filter_map (listed_at metas live sup) (range_with_len 0 head) ++ cons_option o []) (sym none)
      ∙ sym (filter_map_range_more (listed_at metas live sup) head)

  none_there : (head : ℕ) → map.get metas head ≡ None → listed_at metas live sup head ≡ None
  none_there head none = elim (cases_Bool (is_given_head head (head_of_id sup.super_blob))) [
    | inl is ↦ rw is refl
    | inr not ↦ rw (not, none) refl
  ]

  skips : (head : ℕ) → map.get metas head ≡ None → AreOf head → AreOf (head + 1)
  skips head none = nothing_at head (none_there head none)

pub loop-head-init : goal.loop-head-init
loop-head-init c = (omega arith, c.new-infos.ensures)

pub loop-head-preserved : goal.loop-head-preserved
loop-head-preserved c =
    let metas = c.args.metas.now in
    let live = c.args.live.now in
    let sup = c.args.sup.now in
    let head : ℕ = c.in-Some.head in
    let low = c.in-Some.ensures.below in
    let infos : List Info = c.loop-head.infos in
    let told = listed_at metas live sup in
    let so_far : AreOf metas live sup infos head =
    up_to_next metas (AreOf metas live sup infos) (skips metas live sup infos) c.loop-head.from head
    c.in-Some.ensures.some c.loop-head.invariant.1 in
    elim c.match-branch-2.branch [
      | in-Some-2+in_ok-push w ↦
          let is : Some w.in-Some-2.info ≡ told head = sym w.in-Some-2.is ∙ c.in_ok-info.ensures in (
            omega (arith, low),
            w.infos-is ∙ w.in_ok-push.ensures.ok ∙ ap (λ xs. xs ++ w.in-Some-2.info ∷ []) so_far
                ∙ ap (λ (o : Option Info). filter_map told (range_with_len 0 head) ++ cons_option o []) is
                ∙ sym (filter_map_range_more told head),
          )
      | in_default-2 w ↦ (
        omega (arith, low),
        w.infos-is ∙ nothing_at metas live sup infos head (sym c.in_ok-info.ensures ∙ w.in_default-2.is) so_far,
      )
    ]

pub returns : goal.returns
returns c =
    let metas = c.args.metas.now in
    let live = c.args.live.now in
    let sup = c.args.sup.now in
    up_to_end metas (AreOf metas live sup c.loop-head.infos) (skips metas live sup c.loop-head.infos) c.loop-head.from
    sup.md_len c.loop-head.invariant.0 c.in_default.ensures.none c.loop-head.invariant.1
