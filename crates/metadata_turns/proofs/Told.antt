-- What the replies to `info`, `list` and `df` are in the volumes that are shown.
use Rattle.std.proofs.Common.{◌≡◌, ℕ, Option, Some, None, refl, sym, ap, subst, ◌∙◌, arith}
use Rattle.std.specs.Prelude.{if◌then◌else◌}
use Rattle.std.specs.List.{filter_map, range_with_len}
use Rattle.std.specs.Option.{option_and_then, option_map, option_map_or}
use Rattle.std.specs.Ordering.{nat_cmp}
use Rattle.std.specs.FinMap as map
use Rattle.std.proofs.Math.Path.{fun_ext}
use Rattle.volume_model.specs.Volumes.{head_of, heads, is_given_head, is_super, slots_of, Fixed, Volume, Volumes}
use Rattle.volume_model.specs.Xattrs.{Xattrs}
use Rattle.volume_model.specs.Refusals.{refusal}
use Rattle.volume_model.specs.Steps as steps
use Rattle.volume_model.specs.declared.command.VolumeRef.{VolumeRef}
use Rattle.volume_model.specs.declared.command.Command.{Command}
use Rattle.volume_model.specs.declared.command.Command.TheVariants as c
use Rattle.volume_model.specs.declared.reply.Df.{Df}
use Rattle.volume_model.specs.declared.reply.Info.{Info}
use Rattle.volume_model.specs.declared.reply.Reply.{Reply}
use Rattle.volume_model.specs.declared.reply.Reply.TheVariants as r
use Rattle.blob_meta.specs.declared.meta.Meta.{Meta}
use Rattle.blob_meta.specs.Parents.{head_of_id}
use Rattle.blob_meta.specs.Resolving.{resolved}
use Rattle.blob_meta.specs.ShownBy.{ShowsAt, ShowsMetas}
use Rattle.store_model.specs.Maps.{Map}
use Rattle.store_model.specs.Shown.{fixed_of}
use Rattle.store_model.specs.StoreState.{StoreState, shown}
use Rattle.store_model.specs.Cases.{df_of, IsInMemory}
use Rattle.store_model.proofs.Resolved.{resolved_stored}
use Rattle.running_store.specs.RunningState.{IsRunning}
use Rattle.running_store.proofs.Showing.{shows_metas}
use Rattle.metadata_turns.specs.Infos as infos
use Rattle.metadata_turns.specs.Infos.{IsQuestion, ParentsFit, Tells, TellsInfo}
use Rattle.metadata_turns.proofs.Answered.{live_same, unchanging, Answered}

module _ (p : StoreState) (running : IsRunning p) (runs : p.stopped ≡ None) (metas : map.FinMap nat_cmp Meta)
    (resolves : resolved p.base ≡ map.get metas) (live : map.FinMap nat_cmp Xattrs) (live_now : p.live ≡ map.get live)
  where
    abbrev f : Fixed
    f = fixed_of p.super

    abbrev v : Volumes
    v = shown p

    shows : ShowsMetas f p.super metas v
    shows = shows_metas p running runs metas resolves

    -- a parent is a blob, whose head is one of the region
    pub parents_fit : ParentsFit metas
    parents_fit h q m there of =
        let up = running.facts.lawful.parents h q m (ap (λ (x : Map Meta). x h) resolves ∙ there) of in
        let low = (resolved_stored running.store p.base running.facts.stored q up.0 up.1).low in
        let few = running.placed.few_md_pages in
        omega (arith, low, few)

    -- ---- what is in memory of a blob is what is told of its volume

    live_here : (h : ℕ) → option_map (λ (x : Volume). x.live) (v h) ≡ map.get live h
    live_here h = ap (λ (m : Map Xattrs). m h) (live_same running.first p (running.facts.well runs) ∙ live_now)

    same_at : (h : ℕ) (o : Option Volume) (n : Option Meta) (l : Option Xattrs) → ShowsAt f o n
        → option_map (λ (x : Volume). x.live) o ≡ l
        → option_and_then (λ m. option_map (infos.blob_info h m) l) n ≡ option_map (steps.info_of f h) o
    same_at h None None l e is = refl
    same_at h None (Some m) l e is = absurd e
    same_at h (Some x) None l e is = absurd e
    same_at h (Some x) (Some m) l e is =
        let a : Info = infos.blob_info h m x.live in
        ap (λ o. option_map (infos.blob_info h m) o) (sym is)
        ∙ ap (λ n. Some (record a { slots = n })) (sym e.slots_are)
        ∙ ap (λ q. Some (record a { slots = slots_of f x; parent = q })) (sym e.parent_is)
        ∙ ap (λ b. Some (record a { slots = slots_of f x; parent = x.parent; thin = b })) (sym e.thin_is)
        ∙ ap (λ b. Some (record a { slots = slots_of f x; parent = x.parent; thin = x.thin; read_only = b }))
        (sym e.read_only_is)

    info_same : infos.info_at metas live ≡ steps.info_at f v
    info_same = fun_ext (λ h. same_at h (v h) (map.get metas h) (map.get live h) (shows.shown h) (live_here h))

    -- ---- one volume

    not_there : (volume : VolumeRef) (o : Option ℕ) → head_of f v volume ≡ o
        → option_and_then (steps.info_at f v) o ≡ None → refusal f v (c.Info volume) ≡ Some r.NoVolume
    not_there volume None meant none = rw meant refl
    not_there volume (Some h) meant none = by (v h) refl none
      where
        by : (x : Option Volume) → v h ≡ x → option_map (steps.info_of f h) x ≡ None
            → refusal f v (c.Info volume) ≡ Some r.NoVolume
        by None is gone = rw (meant, is) refl
        by (Some x) is gone = absurd (cc gone)

    there_is : (volume : VolumeRef) (o : Option ℕ) (info : Info) → head_of f v volume ≡ o
        → option_and_then (steps.info_at f v) o ≡ Some info → refusal f v (c.Info volume) ≡ None
    there_is volume None info meant some = absurd (cc some)
    there_is volume (Some h) info meant some = by (v h) refl some
      where
        by : (x : Option Volume) → v h ≡ x → option_map (steps.info_of f h) x ≡ Some info
            → refusal f v (c.Info volume) ≡ None
        by None is gone = absurd (cc gone)
        by (Some x) is gone = rw (meant, is) refl

    told : (volume : VolumeRef) (reply : Reply) → TellsInfo metas live p.super volume reply
        → Answered f v p.live (c.Info volume) reply None
    told volume reply x =
        subst (λ (k : Reply). Answered f v p.live (c.Info volume) k None) (sym x.reply_is)
        (by (option_and_then (infos.info_at metas live) x.head) refl)
      where
        meant : head_of f v volume ≡ x.head
        meant = x.meant f v shows

        shown_too : (o : Option Info) → option_and_then (infos.info_at metas live) x.head ≡ o
            → option_and_then (steps.info_at f v) x.head ≡ o
        shown_too o is = ap (λ g. option_and_then g x.head) (sym info_same) ∙ is

        by : (o : Option Info) → option_and_then (infos.info_at metas live) x.head ≡ o
            → Answered f v p.live (c.Info volume) (option_map_or (λ info. r.Info info) o r.NoVolume) None
        by None is = unchanging running.first p (running.facts.well runs) (c.Info volume) r.NoVolume
            (not_there volume x.head meant (shown_too None is)) tt refl
        by (Some info) is = unchanging running.first p (running.facts.well runs) (c.Info volume) (r.Info info) (
          there_is volume x.head info meant (shown_too (Some info) is),
          ap (λ o. option_and_then (steps.info_at f v) o) meant ∙ shown_too (Some info) is,
        ) tt refl

    -- ---- all of them

    listed_same : infos.listed metas live p.super
        ≡ filter_map (λ h. if is_super f h then None else steps.info_at f v h) (heads f)
    listed_same = ap (λ (g : ℕ → Option Info).
        filter_map (λ h. if is_given_head h (head_of_id p.super.super_blob) then None else g h)
        (range_with_len 0 p.super.md_len)) info_same

    listed : Answered f v p.live c.List (r.List (infos.listed metas live p.super)) None
    listed = unchanging running.first p (running.facts.well runs) c.List (r.List (infos.listed metas live p.super))
        (refl, listed_same) tt refl

    -- ---- each such command

    pub answered_question : (command : Command) (reply : Reply) → IsQuestion command
        → Tells metas live p.super (df_of p) command reply → Answered f v p.live command reply None
    answered_question (c.Info volume) reply is tells = told volume reply tells
    answered_question c.List reply is tells =
        subst (λ (x : Reply). Answered f v p.live c.List x None) (sym tells) listed
    answered_question c.Df reply is tells =
        subst (λ (x : Reply). Answered f v p.live c.Df x None) (sym tells)
        (unchanging running.first p (running.facts.well runs) c.Df (r.Df (df_of p)) (refl, tt) tt refl)
    answered_question _ reply is tells = absurd is

    -- what is told to be free is
    pub tells_free : (command : Command) (reply : Reply) → IsQuestion command
        → Tells metas live p.super (df_of p) command reply → (df : Df) → reply ≡ r.Df df → df ≡ df_of p
    tells_free (c.Info volume) reply is tells df e =
        absurd (by (option_and_then (infos.info_at metas live) tells.head) (sym tells.reply_is ∙ e))
      where
        by : (o : Option Info) → option_map_or (λ info. r.Info info) o r.NoVolume ≡ r.Df df → ⊥
        by None bad = cc bad
        by (Some info) bad = cc bad
    tells_free c.List reply is tells df e = absurd (let bad = sym tells ∙ e in cc bad)
    tells_free c.Df reply is tells df e = let same : df_of p ≡ df = let both = sym tells ∙ e in cc both in sym same
    tells_free _ reply is tells df e = absurd is

-- such a command is answered in memory
pub asks_in_memory : (command : Command) → IsQuestion command → IsInMemory command
asks_in_memory (c.Info volume) is = tt
asks_in_memory c.List is = tt
asks_in_memory c.Df is = tt
asks_in_memory _ is = absurd is

-- and is one of three
pub no_question : (command : Command) → IsQuestion command → ((volume : VolumeRef) → command ≡ c.Info volume → ⊥)
    → (command ≡ c.List → ⊥) → (command ≡ c.Df → ⊥) → ⊥
no_question (c.Info volume) is info list df = info volume refl
no_question c.List is info list df = list refl
no_question c.Df is info list df = df refl
no_question _ is info list df = absurd is
