-- The replacements of a snapshot's job, of which drafts are made: what is known of them.
use Rattle.std.proofs.Common.{◌≡◌, ◌∙◌, ℕ, ◌<◌, Bool, true, List, [], ◌∷◌, drop, length, Option, None}
use Rattle.std.proofs.Common.{Some, refl, sym, ap, subst, arith, IsSome}
use Rattle.std.specs.Prelude.{is_some, not}
use Rattle.std.specs.List.{AllByRecursion}
use Rattle.page_disk.specs.declared.disk.PageDisk.{Ghosts}
use Rattle.volume_model.specs.declared.reply.Reply.{Reply}
use Rattle.volume_model.specs.declared.reply.Reply.TheVariants as r
use Rattle.blob_meta.specs.declared.job.Job.{Job}
use Rattle.blob_meta.specs.declared.meta.Meta.{Meta}
use Rattle.blob_meta.specs.Resolving.{without_marks}
use Rattle.md_chain.proofs.Fitting.{some_parts}
use Rattle.snapshots.specs.SnapshotJobs.{begun_snapshot, emptied_volume, filled_snapshot, snapshot_job}
use Rattle.store_model.specs.Asking.{IsJobFor}
use Rattle.store_model.specs.Cases.{IsRefusedAtBegin}
use Rattle.store_model.specs.Maps.{with_option, Metas}
use Rattle.store_model.specs.Phases.{Committing}
use Rattle.store_model.specs.Places.{AreLeastClear}
use Rattle.store_model.specs.Steady.{IsStored}
use Rattle.store_model.specs.StoreState.{StoreState}
use Rattle.store_model.proofs.WithEntry.{option_elsewhere, option_here}
use Rattle.running_store.specs.Running.{view_of}
use Rattle.running_store.specs.Steps.{Asks}
use Rattle.running_store.specs.StoreView.{state_of, StoreView}
use Rattle.running_store.specs.declared.effects.Effects.{Effects}
use Rattle.running_store.specs.declared.job.Serves.TheVariants as whom
use Rattle.running_store.specs.declared.running.Running.{Running}
use Rattle.job_views.specs.Replacing.{blobs_in}
use Rattle.job_begins.specs.Begins.{no_effects}
use Rattle.job_begins.specs.JobBegins.{CanBegin}
use Rattle.job_begins.specs.JobPages.{ArePagesTaken, IsShort}
use Rattle.job_begins.specs.JobSteps.{needs_together, IsStepFor, MakesNext}
use Rattle.job_begins.specs.Drafts.{IsDraft}
use Rattle.job_begins.specs.ListJobs.{effects_in, snapshot_commit}
use Rattle.job_begins.specs.Snapshots.{AreSnapshotDrafts, AreSnapshotEffects, AreSnapshotSteps, AsksToSnapshot}
use Rattle.job_begins.specs.declared.asking.SnapshotAsk.{SnapshotAsk}
use Rattle.job_begins.specs.declared.drafts.Draft.{Draft}
use Rattle.job_begins.specs.declared.steps.Step.{Step}
use Rattle.job_begins.specs.declared.steps.Step.TheVariants as step
use Rattle.job_begins.proofs.BeginKnown.{no_job}
use Rattle.job_begins.proofs.JobPlaces.{taken_is}
use Rattle.job_begins.proofs.ListMoves.{begins_moves, commit_moves, fills_moves, finishes_moves}
use Rattle.job_begins.proofs.ListParts.{draft_as, draft_of}
use Rattle.job_begins.proofs.SnapshotAsked.{IsSnapshotAsked}
use Rattle.job_begins.proofs.SnapshotKnown as before
use Rattle.job_begins.proofs.StepsBegin.{placed, used}
use Rattle.job_begins.proofs.StepsLaid.{AllMove}
use Rattle.job_begins.proofs.StepsOver.{stays, steps_short, AreOver}

module _ {D : Type 0} {d : Ghosts D} {store : Running D} {channel : ℕ} (can : CanBegin d store channel)
    {x : SnapshotAsk}
    (asks_it : Asks (view_of store) channel (λ command. AsksToSnapshot (state_of d (view_of store)) command x))
    (steps : List Step) (are : AreSnapshotSteps (blobs_in (view_of store)) x steps) where
  abbrev p : StoreView D
  p = view_of store

  abbrev s : StoreState
  s = state_of d p

  abbrev asks : AsksToSnapshot s can.posted.waits.command x
  asks = before.asks can asks_it

  abbrev pub known : IsSnapshotAsked s can.running can.unmarked can.runs (no_job can) can.posted.waits.command x asks
  known = before.known can asks_it

  abbrev begun : Meta
  begun = begun_snapshot x.of known.old x.head known.xattrs

  abbrev filled : Meta
  filled = filled_snapshot x.of known.old x.head known.xattrs

  abbrev made : Meta
  made = without_marks filled

  abbrev emptied : Meta
  emptied = emptied_volume known.old x.head

  abbrev drafts : AreSnapshotDrafts x are.begin are.commit steps
  drafts = are.drafts

  abbrev e : AreSnapshotEffects (blobs_in p) x are.begin are.commit
  e = are.effects

  abbrev pub snapped : Job
  snapped = snapshot_job x.of known.old x.head known.xattrs

  abbrev pub commit : Committing
  commit = record {
    reply = r.Made x.head;
    live = Some (record { head = x.head; xattrs = Some known.xattrs });
    renews = x.of ∷ x.head ∷ [];
  }

  pub asked : IsJobFor s can.posted.waits.command snapped commit
  asked = subst (λ (c : Committing). IsJobFor s can.posted.waits.command snapped c) known.commit
      (subst (λ (j : Job). IsJobFor s can.posted.waits.command j asks.commit) known.job asks.asked)

  -- ---- the replacements

  room_of : (o : Option ℕ) → IsSome o → (room : ℕ) × (o ≡ Some room)
  room_of None some = absurd (cc some)
  room_of (Some room) some = (room, refl)

  pub room : (room : ℕ) × (e.chain_room ≡ Some room)
  room = room_of e.chain_room (e.makes known.no_chain)

  abbrev begin_effects : Effects
  begin_effects = effects_in (Some room.0) e.mark_room

  abbrev commit_effects : Effects
  commit_effects = record no_effects {
    commit = Some (snapshot_commit x.of known.old x.head known.xattrs e.live_room e.shown_room);
  }

  begin_is : are.begin ≡ begin_effects
  begin_is = e.begin_is ∙ ap (λ (o : Option ℕ). effects_in o e.mark_room) room.1

  commit_is : are.commit ≡ commit_effects
  commit_is = e.commit_is ∙ ap (λ (m : Meta). record no_effects {
    commit = Some (record {
      made = Some x.head;
      live = Some (record { head = x.head; value = Some m.xattrs; room = e.live_room });
      renews = x.of ∷ x.head ∷ [];
      shows = Some (record { head = x.head; value = Some m; room = e.shown_room });
    });
  }) known.made

  abbrev first : Draft
  first = draft_of x.head begun begin_effects drafts.begun.items

  abbrev second : Draft
  second = draft_of x.head filled no_effects drafts.filled.items

  abbrev third : Draft
  third = draft_of x.of emptied commit_effects drafts.emptied.items

  abbrev fourth : Draft
  fourth = draft_of x.head made no_effects drafts.made.items

  first_is : drafts.begun ≡ first
  first_is = draft_as x.head x.begun begun are.begin begin_effects drafts.begun drafts.begun_of known.begun begin_is

  second_is : drafts.filled ≡ second
  second_is = draft_as x.head x.filled filled no_effects no_effects drafts.filled drafts.filled_of known.filled refl

  third_is : drafts.emptied ≡ third
  third_is =
      draft_as x.of x.emptied emptied are.commit commit_effects drafts.emptied drafts.emptied_of known.emptied commit_is

  fourth_is : drafts.made ≡ fourth
  fourth_is = draft_as x.head x.made made no_effects no_effects drafts.made drafts.made_of known.made refl

  abbrev pub list : List Step
  list = step.Writes first ∷ step.Writes second ∷ step.Writes third ∷ step.Writes fourth ∷ []

  pub list_is : steps ≡ list
  list_is = drafts.steps_are ∙ (λ i.
      step.Writes (first_is i) ∷ step.Writes (second_is i) ∷ step.Writes (third_is i) ∷ step.Writes (fourth_is i) ∷ [])

  -- ---- what is known of them

  is_first : IsDraft first
  is_first = subst IsDraft first_is drafts.begun_of.draft

  is_second : IsDraft second
  is_second = subst IsDraft second_is drafts.filled_of.draft

  is_third : IsDraft third
  is_third = subst IsDraft third_is drafts.emptied_of.draft

  is_fourth : IsDraft fourth
  is_fourth = subst IsDraft fourth_is drafts.made_of.draft

  pub for_command : AllByRecursion (IsStepFor (whom.Command channel (Some x.of))) steps
  for_command = subst (AllByRecursion (IsStepFor (whom.Command channel (Some x.of)))) (sym list_is)
      ((is_first, tt, refl), ((is_second, tt, refl), ((is_third, tt, refl), ((is_fourth, tt, refl), tt))))

  abbrev begun_base : Metas
  begun_base = with_option s.base x.head (Some begun)

  abbrev filled_base : Metas
  filled_base = with_option begun_base x.head (Some filled)

  abbrev emptied_base : Metas
  emptied_base = with_option filled_base x.of (Some emptied)

  -- the first makes a blob, which is there for the others
  pub over : AreOver s.base list
  over = (
    (is_first, ap (λ (o : Option Meta). not (is_some o)) (sym known.none)),
    (
      (is_second, stays begun_base x.head (option_here s.base x.head (Some begun) x.head refl)),
      (
        (
          is_third,
          stays filled_base x.of (option_elsewhere begun_base x.head (Some filled) x.of known.apart
              ∙ option_elsewhere s.base x.head (Some begun) x.of known.apart ∙ known.there),
        ),
        (
          (
            is_fourth,
            stays emptied_base x.head
                (option_elsewhere filled_base x.of (Some emptied) x.head (λ same. known.apart (sym same))
                ∙ option_here begun_base x.head (Some filled) x.head refl),
          ),
          tt,
        ),
      ),
    ),
  )

  pub next : MakesNext p.pages list
  next = ((λ _. before.next_head can asks_it), (refl, (refl, (refl, tt))))

  -- that its pages aren't taken is why it doesn't begin
  pub short : (reply : Reply) → IsShort (needs_together steps) p.pages reply
      → IsRefusedAtBegin s can.posted.waits.command reply
  short reply is = steps_short s can.posted.waits.command snapped commit asked (no_job can) refl list refl over reply
      (subst (λ (l : List Step). IsShort (needs_together l) p.pages reply) list_is is)

  -- ---- once its pages are taken

  module _ {after : List Bool} {taken : List ℕ} (pages : ArePagesTaken (needs_together list) p.pages after taken) where
    some : 0 < length taken
    some =
        let parts = some_parts 4072 drafts.begun.items in
        let long = pages.long in
        omega (arith, parts, long)

    first_taken : taken ≡ x.head ∷ drop 1 taken
    first_taken = taken_is p.pages true x.head taken pages.least (λ _. before.next_head can asks_it) (λ _. some)

    least_from : AreLeastClear p.pages (x.head ∷ drop 1 taken)
    least_from = subst (AreLeastClear p.pages) first_taken pages.least

    -- the new blob's head lies in the region
    pub head_low : x.head < p.super.md_len
    head_low = subst (λ n. x.head < n) (used can).count least_from.0.within

    stored : IsStored p.super x.head x.begun
        × (IsStored p.super x.head x.filled × (IsStored p.super x.of x.emptied × IsStored p.super x.head x.made))
    stored = known.stored head_low

    pub moves : AllMove p.super (placed can) s.base [] list
    moves = (
      (
        subst (IsStored p.super x.head) known.begun stored.0,
        begins_moves p.super s.base x.of x.head known.old known.xattrs known.there known.none,
      ),
      (
        (
          subst (IsStored p.super x.head) known.filled stored.1.0,
          fills_moves p.super s.base x.of x.head known.old known.xattrs known.there known.none,
        ),
        (
          (
            subst (IsStored p.super x.of) known.emptied stored.1.1.0,
            commit_moves p.super s.base x.of x.head known.old known.xattrs known.there known.none,
          ),
          (
            (
              subst (IsStored p.super x.head) known.made stored.1.1.1,
              finishes_moves p.super s.base x.of x.head known.old known.xattrs known.there known.none,
            ),
            tt,
          ),
        ),
      ),
    )
