-- What an answer in memory is in the volumes that are shown.
use Rattle.blob_meta.specs.Resolving.{resolved}
use Rattle.std.proofs.Common.{◌≡◌, ℕ, Option, Some, None, refl, sym, ap, subst, ◌∙◌, inl, inr}
use Rattle.std.specs.Prelude.{IfSome}
use Rattle.std.specs.Option.{option_map, option_and_then}
use Rattle.std.specs.Ordering.{nat_cmp}
use Rattle.std.specs.FinMap as map
use Rattle.std.proofs.lemmas.Bool.{cases_eq}
use Rattle.std.proofs.Math.Path.{fun_ext}
use Rattle.volume_model.specs.Volumes.{Fixed, Volume, Volumes, head_of}
use Rattle.volume_model.specs.Xattrs.{Xattrs, value_of, with_value, without}
use Rattle.volume_model.specs.Refusals.{refusal}
use Rattle.volume_model.specs.Steps.{Allowed, change, edited_at, named_head, volume_at}
use Rattle.volume_model.specs.declared.command.VolumeRef.{VolumeRef}
use Rattle.volume_model.specs.declared.command.Command.{Command}
use Rattle.volume_model.specs.declared.command.Command.TheVariants as c
use Rattle.volume_model.specs.declared.reply.Df.{Df}
use Rattle.volume_model.specs.declared.reply.Reply.{Reply}
use Rattle.volume_model.specs.declared.reply.Reply.TheVariants as r
use Rattle.blob_meta.specs.declared.meta.Meta.{Meta}
use Rattle.blob_meta.specs.Asked.{IsAttributeCause, ShowsLive}
use Rattle.store_model.specs.Maps.{Map, with_entry}
use Rattle.store_model.specs.Shown.{fixed_of, volume_of}
use Rattle.store_model.specs.Cases.{IsQuiet}
use Rattle.store_model.specs.StoreState.{StoreState, shown}
use Rattle.store_model.specs.Cases.{IsInMemory, live_of}
use Rattle.store_model.specs.RunInvariant.{RunsWell}
use Rattle.store_model.proofs.WithEntry.{given_here, given_elsewhere}
use Rattle.store_model.proofs.Shows.{or_empty}
use Rattle.store_model.proofs.Synced.{edited_here, edited_there}
use Rattle.metadata_turns.specs.declared.answering.Effect.{Effect}
use Rattle.metadata_turns.specs.declared.answering.NewLive.{NewLive}
use Rattle.running_store.proofs.Maps.{insert_given}
use Rattle.metadata_turns.specs.Answering.{ComesTo, DoesVerb, IsAskedInMemory}

-- ---- what a running store shows of a blob

module _ (first : Volumes) (p : StoreState) (well : RunsWell first p) where
  abbrev by_live : ℕ → Xattrs → Option Meta → Option Volume
  by_live h xs o =
      option_map (λ m. volume_of (fixed_of p.super).cluster_pages p.device.reads (resolved p.base)
      p.super.md_len xs h m) o

  live_at : (h : ℕ) (o : Option Meta) → resolved p.base h ≡ o
      → option_map (λ (x : Volume). x.live) (by_live h (or_empty (p.live h)) o) ≡ p.live h
  live_at h None is = sym (well.no_live h is)
  live_at h (Some m) is = let l = well.live h m is in ap (λ xs. Some (or_empty xs)) l.1 ∙ sym l.1

  -- the live attributes are those of the volumes
  pub live_same : live_of (shown p) ≡ p.live
  live_same = fun_ext (λ h. live_at h (resolved p.base h) refl)

-- ---- what an effect is

abbrev pub live_after : Map Xattrs → Option NewLive → Map Xattrs
live_after live None = live
live_after live (Some new) = with_entry live new.head new.xattrs

pub record Answered (f : Fixed) (v : Volumes) (live : Map Xattrs) (command : Command) (reply : Reply)
    (new : Option NewLive) : Type 0 where
  pub allowed : Allowed f v command reply
  pub quiet : IsQuiet reply
  pub live_is : live_after live new ≡ live_of (change f v command reply)

module _ (f : Fixed) (v : Volumes) where
  refused_allowed : (command : Command) (reply : Reply) → IsAttributeCause reply → refusal f v command ≡ Some reply
      → Allowed f v command reply × IsQuiet reply
  refused_allowed command r.NoVolume cause is = (is, tt)
  refused_allowed command r.Reserved cause is = (is, tt)
  refused_allowed command r.ReadOnly cause is = (is, tt)
  refused_allowed command r.TooLong cause is = (is, tt)
  refused_allowed command r.NoValue cause is = (is, tt)
  refused_allowed command _ cause is = absurd cause

  by_cause : (w : Reply → Volumes) → w r.NoVolume ≡ v → w r.Reserved ≡ v → w r.ReadOnly ≡ v → w r.TooLong ≡ v
      → w r.NoValue ≡ v → (reply : Reply) → IsAttributeCause reply → w reply ≡ v
  by_cause w a b e g h r.NoVolume cause = a
  by_cause w a b e g h r.Reserved cause = b
  by_cause w a b e g h r.ReadOnly cause = e
  by_cause w a b e g h r.TooLong cause = g
  by_cause w a b e g h r.NoValue cause = h
  by_cause w a b e g h _ cause = absurd cause

  refused_same : (command : Command) (reply : Reply) → IsInMemory command → IsAttributeCause reply
      → change f v command reply ≡ v
  refused_same (c.SetX volume key value) reply is cause =
      by_cause (λ x. change f v (c.SetX volume key value) x) refl refl refl refl refl reply cause
  refused_same (c.DelX volume key) reply is cause =
      by_cause (λ x. change f v (c.DelX volume key) x) refl refl refl refl refl reply cause
  refused_same (c.GetX volume key) reply is cause = refl
  refused_same (c.Info volume) reply is cause = refl
  refused_same c.List reply is cause = refl
  refused_same c.Df reply is cause = refl
  refused_same _ reply is cause = absurd is

  -- a volume at a head
  module _ (live : Map Xattrs) (same : live_of v ≡ live) (head : ℕ) (mine : Xattrs) (is : live head ≡ Some mine) where
    at_head : (o : Option Volume) → v head ≡ o → option_map (λ (x : Volume). x.live) o ≡ Some mine
        → (x : Volume) × (v head ≡ Some x) × (x.live ≡ mine)
    at_head None there none = absurd (cc none)
    at_head (Some x) there some = (x, there, cc some)

    pub found : (x : Volume) × (v head ≡ Some x) × (x.live ≡ mine)
    found = at_head (v head) refl (ap (λ (m : Map Xattrs). m head) same ∙ is)

    -- of which one edits the live attributes
    changed : (volume : VolumeRef) → head_of f v volume ≡ Some head → (new : Xattrs → Xattrs)
        → with_entry live head (new mine)
        ≡ live_of (edited_at f v (head_of f v volume) (λ x. record x { live = new x.live }))
    changed volume meant new = fun_ext (λ k. elim (cases_eq k head) [
      | inl e ↦
          given_here live head (new mine) k e ∙ ap (λ (xs : Xattrs). Some (new xs)) (sym found.2)
          ∙ ap
          (λ o. option_map (λ (x : Volume). x.live) (option_map (λ (x : Volume). record x { live = new x.live }) o))
          (sym found.1)
          ∙ ap (λ o. option_map (λ (x : Volume). x.live) o) (sym
          (edited_here f v (head_of f v volume) (λ (x : Volume). record x { live = new x.live }) head meant))
          ∙ ap (λ h. live_of (edited_at f v (head_of f v volume) (λ x. record x { live = new x.live })) h) (sym e)
      | inr ne ↦
          given_elsewhere live head (new mine) k ne ∙ ap (λ (m : Map Xattrs). m k) (sym same)
          ∙ ap (λ o. option_map (λ (x : Volume). x.live) o) (sym (edited_there f v (head_of f v volume)
          (λ (x : Volume). record x { live = new x.live }) head meant k ne))
    ])

    done : (command : Command) (reply : Reply) (new : Option NewLive) → named_head f v command ≡ Some head
        → refusal f v command ≡ None → DoesVerb head mine command reply new → Answered f v live command reply new
    done (c.SetX volume key value) reply new meant none does =
        let whole : Answered f v live (c.SetX volume key value) r.Ok
        (Some (record { head = head; xattrs = with_value mine key value })) =
        record { allowed = (none, tt); quiet = tt; live_is = changed volume meant (λ xs. with_value xs key value) } in
        subst (λ (x : Reply). Answered f v live (c.SetX volume key value) x new) (sym does.0)
        (subst (λ (n : Option NewLive). Answered f v live (c.SetX volume key value) r.Ok n) (sym does.1) whole)
    done (c.DelX volume key) reply new meant none does =
        let whole : Answered f v live (c.DelX volume key) r.Ok
        (Some (record { head = head; xattrs = without mine key })) =
        record { allowed = (none, tt); quiet = tt; live_is = changed volume meant (λ xs. without xs key) } in
        subst (λ (x : Reply). Answered f v live (c.DelX volume key) x new) (sym does.0)
        (subst (λ (n : Option NewLive). Answered f v live (c.DelX volume key) r.Ok n) (sym does.1) whole)
    done (c.GetX volume key) reply new meant none does =
        let value = does.1.0 in
        let at : option_and_then (λ (x : Volume). value_of x.live key) (volume_at f v volume) ≡ Some value =
        ap (λ o. option_and_then (λ (x : Volume). value_of x.live key) (option_and_then v o)) meant
        ∙ ap (λ o. option_and_then (λ (x : Volume). value_of x.live key) o) found.1
        ∙ ap (λ (xs : Xattrs). value_of xs key) found.2 ∙ does.1.2 in
        let whole : Answered f v live (c.GetX volume key) (r.Value value) None =
        record { allowed = (none, at); quiet = tt; live_is = sym same } in
        subst (λ (x : Reply). Answered f v live (c.GetX volume key) x new) (sym does.1.1) (subst
        (λ (n : Option NewLive). Answered f v live (c.GetX volume key) (r.Value value) n) (sym does.0) whole)
    done _ reply new meant none does = absurd does

-- ---- an effect in the volumes that are shown

pub answered_by : (first : Volumes) (p : StoreState) (metas : map.FinMap nat_cmp Meta) (command : Command)
    (head : Option ℕ) (xattrs : Option Xattrs) (e : Effect) → RunsWell first p → IsInMemory command
    → named_head (fixed_of p.super) (shown p) command ≡ head → xattrs ≡ option_and_then p.live head
    → ShowsLive metas p.super xattrs command (fixed_of p.super) (shown p)
    → ComesTo metas p.super head xattrs command e
    → Answered (fixed_of p.super) (shown p) p.live command e.reply e.live
answered_by first p metas command head xattrs e well in_memory named live_is shows (inl x) =
    let f = fixed_of p.super in
    let is = x.first f (shown p) shows in
    let allowed = refused_allowed f (shown p) command e.reply x.cause is in
    record {
      allowed = allowed.0;
      quiet = allowed.1;
      live_is = ap (live_after p.live) x.none ∙ sym (live_same first p well)
          ∙ ap live_of (sym (refused_same f (shown p) command e.reply in_memory x.cause));
    }
answered_by first p metas command head xattrs e well in_memory named live_is shows (inr x) =
    let f = fixed_of p.super in
    let here : p.live x.at ≡ Some x.mine =
    ap (λ o. option_and_then p.live o) (sym x.head_is) ∙ sym live_is ∙ x.live_is in
    done f (shown p) p.live (live_same first p well) x.at x.mine here command e.reply e.live (named ∙ x.head_is)
    (x.none f (shown p) shows) x.does

-- an answer that changes no volume
pub unchanging : (first : Volumes) (p : StoreState) → RunsWell first p → (command : Command) (reply : Reply)
    → Allowed (fixed_of p.super) (shown p) command reply → IsQuiet reply
    → change (fixed_of p.super) (shown p) command reply ≡ shown p
    → Answered (fixed_of p.super) (shown p) p.live command reply None
unchanging first p well command reply allowed quiet same = record {
  allowed = allowed;
  quiet = quiet;
  live_is = sym (live_same first p well) ∙ ap live_of (sym same);
}

-- want of memory answers a command in memory
pub answered_memory : (first : Volumes) (p : StoreState) (command : Command) → RunsWell first p → IsInMemory command
    → Answered (fixed_of p.super) (shown p) p.live command r.Memory None
answered_memory first p (c.SetX volume key value) well is =
    unchanging first p well (c.SetX volume key value) r.Memory tt tt refl
answered_memory first p (c.DelX volume key) well is = unchanging first p well (c.DelX volume key) r.Memory tt tt refl
answered_memory first p (c.GetX volume key) well is = unchanging first p well (c.GetX volume key) r.Memory tt tt refl
answered_memory first p (c.Info volume) well is = unchanging first p well (c.Info volume) r.Memory tt tt refl
answered_memory first p c.List well is = unchanging first p well c.List r.Memory tt tt refl
answered_memory first p c.Df well is = unchanging first p well c.Df r.Memory tt tt refl
answered_memory first p _ well is = absurd is

-- a command on attributes says nothing of what is free
pub not_df : (f : Fixed) (v : Volumes) (command : Command) (reply : Reply) → IsAskedInMemory command
    → Allowed f v command reply → (df : Df) → reply ≡ r.Df df → ⊥
not_df f v (c.SetX volume key value) reply on allowed df is =
    (subst (Allowed f v (c.SetX volume key value)) is allowed).1
not_df f v (c.DelX volume key) reply on allowed df is = (subst (Allowed f v (c.DelX volume key)) is allowed).1
not_df f v (c.GetX volume key) reply on allowed df is = (subst (Allowed f v (c.GetX volume key)) is allowed).1
not_df f v (c.Info volume) reply on allowed df is = absurd on.0
not_df f v c.List reply on allowed df is = absurd on.0
not_df f v c.Df reply on allowed df is = absurd on.0
not_df f v _ reply on allowed df is = absurd on.1

-- the map of live attributes, once the new ones are kept
pub live_kept : (old new : map.FinMap nat_cmp Xattrs) (o : Option NewLive) → (o ≡ None → new ≡ old)
    → IfSome o (λ n. new ≡ map.insert old n.head n.xattrs) → map.get new ≡ live_after (map.get old) o
live_kept old new None none some = ap map.get (none refl)
live_kept old new (Some n) none some = ap map.get some ∙ insert_given old n.head n.xattrs
