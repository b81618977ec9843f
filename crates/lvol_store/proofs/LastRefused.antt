-- The last job of a fill that nothing refuses is refused for want of memory alone.
use Rattle.std.proofs.Common.{◌≡◌, ℕ, Bool, true, false, Option, Some, None, refl, sym, ap, ◌∙◌, subst, inl, inr}
use Rattle.std.specs.Prelude.{IsSome}
use Rattle.std.specs.Ordering.{nat_cmp}
use Rattle.std.specs.FinMap as map
use Rattle.std.proofs.lemmas.Bool.{cases_Bool}
use Rattle.super_block.specs.declared.page.Super.{Super}
use Rattle.volume_model.specs.Refusals.{refusal}
use Rattle.volume_model.specs.Volumes.{is_given_head, is_super}
use Rattle.volume_model.specs.declared.command.VolumeRef.{VolumeRef}
use Rattle.volume_model.specs.declared.reply.Reply.{Reply}
use Rattle.volume_model.specs.declared.reply.Reply.TheVariants as r
use Rattle.blob_meta.specs.declared.meta.Meta.{Meta}
use Rattle.blob_meta.specs.Parents.{head_of_id}
use Rattle.blob_meta.specs.ShownBy.{IsFirstRefusal, IsHeadMeant}
use Rattle.blob_meta.proofs.Shown.{volume_shown}
use Rattle.snapshots.specs.RefusedAt.{IsFirstAt, RefusesFirstAt}
use Rattle.inflate_delete.specs.Fills.{command_of}
use Rattle.inflate_delete.specs.declared.filling.FillKind.{FillKind}
use Rattle.inflate_delete.specs.declared.filling.FillKind.TheVariants.{Inflate, Decouple}
use Rattle.lvol_store.specs.SlotPlans.{RefusesFirst}

module _ (metas : map.FinMap nat_cmp Meta) (sup : Super) (head : ℕ) (kind : FillKind) (volume : VolumeRef)
    (meant : IsHeadMeant metas sup volume (Some head)) where
  -- at the super blob the command would be refused as reserved
  reserved : (m : Meta) → map.get metas head ≡ Some m → is_given_head head (head_of_id sup.super_blob) ≡ true
      → IsFirstRefusal metas sup (command_of kind volume) (Some r.Reserved)
  reserved m there is f v shows = by kind
    where
      super : is_super f head ≡ true
      super = ap (is_given_head head) shows.super_is ∙ is

      by : (k : FillKind) → refusal f v (command_of k volume) ≡ Some r.Reserved
      by Inflate =
          let shown = volume_shown f sup metas v shows head m there in
          rw (meant f v shows, shown.1, super) refl
      by Decouple =
          let shown = volume_shown f sup metas v shows head m there in
          rw (meant f v shows, shown.1, super) refl

  -- want of memory, or the first cause, of a blob that is there
  pub last_refused : IsSome (map.get metas head) → IsFirstAt metas sup head (command_of kind) None → (reply : Reply)
      → ((other : Super) → is_given_head head (head_of_id other.super_blob) ≡ false
      → RefusesFirstAt metas other head (command_of kind) reply) → RefusesFirst metas sup (command_of kind volume) reply
  last_refused some unrefused reply refused = by (map.get metas head) refl some
    where
      none_here : (m : Meta) → map.get metas head ≡ Some m
          → is_given_head head (head_of_id sup.super_blob) ≡ true
          → RefusesFirst metas sup (command_of kind volume) reply
      none_here m there is = elim (refused (record sup { super_blob = 0 }) refl) [
        | inl memory ↦ inl memory
        | inr cause ↦ inr (
          cause.0,
          λ f v shows. absurd (let bad : None ≡ Some r.Reserved =
              sym (unrefused volume meant f v shows) ∙ reserved m there is f v shows in cc bad),
        )
      ]

      by : (o : Option Meta) → map.get metas head ≡ o → IsSome o
          → RefusesFirst metas sup (command_of kind volume) reply
      by None none bad = absurd (cc bad)
      by (Some m) there some = elim (cases_Bool (is_given_head head (head_of_id sup.super_blob))) [
        | inl is ↦ none_here m there is
        | inr other ↦ elim (refused sup other) [
          | inl memory ↦ inl memory
          | inr cause ↦ inr (cause.0, cause.1 volume meant)
        ]
      ]
