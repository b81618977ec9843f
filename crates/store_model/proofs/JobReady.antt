-- A job that a command asks for is ready once it is laid on pages, whatever the verb.
use Rattle.std.proofs.Common.{◌≡◌, ◌⊎◌, ◌∙◌, ◌^◌, ◌≤◌, ℕ, ◌<◌, Bool, true, false, List, [], ◌∷◌, length, None, Option}
use Rattle.std.proofs.Common.{Some, refl, sym, ap, subst, inl, inr, arith}
use Rattle.std.specs.Prelude.{if◌then◌else◌, is_some, ◌+◌, drop}
use Rattle.std.specs.Option.{option_map}
use Rattle.std.proofs.lemmas.Bool.{cases_Bool}
use Rattle.bit_array.specs.Bits.{IsLeastClear}
use Rattle.volume_model.specs.Refusals.{refusal}
use Rattle.volume_model.specs.Steps.{named_head}
use Rattle.volume_model.specs.Volumes.{head_of, two_xattrs}
use Rattle.volume_model.specs.Xattrs.{Text, Xattrs}
use Rattle.volume_model.specs.declared.command.Command.{Command}
use Rattle.volume_model.specs.declared.command.Command.TheVariants as c
use Rattle.volume_model.specs.declared.command.VolumeRef.{VolumeRef}
use Rattle.blob_meta.specs.declared.meta.Meta.{Meta}
use Rattle.blob_meta.specs.declared.job.Job.{Job as Changes}
use Rattle.blob_meta.specs.declared.job.Replacement.{Replacement}
use Rattle.blob_meta.specs.Faults.{is_thin}
use Rattle.blob_meta.specs.Jobs.{job_of_one as one_of, new_meta, resized_meta}
use Rattle.blob_meta.specs.Repairs.{HasNoMarks, with_replacement}
use Rattle.blob_meta.specs.Resolving.{IsLawful, resolved, slots_together, without_marks}
use Rattle.md_chain.specs.Chain.{is_among}
use Rattle.snapshots.specs.SnapshotJobs.{begun_snapshot, clone_job, emptied_volume, filled_snapshot, new_clone}
use Rattle.snapshots.specs.SnapshotJobs.{snapshot_job}
use Rattle.inflate_delete.specs.Clones.{clones_below}
use Rattle.inflate_delete.specs.DeleteJobs.{delete_job, erase_job, heir_of}
use Rattle.inflate_delete.specs.DeletePlans.{IsJobBeside}
use Rattle.inflate_delete.specs.FillJobs.{fill_job, filled_blob}
use Rattle.inflate_delete.specs.Fills.{parent_blob}
use Rattle.store_model.specs.Shown.{fixed_of}
use Rattle.store_model.specs.Phases.{Committing, replaced, Replacing}
use Rattle.store_model.specs.Places.{AreLeastClear}
use Rattle.store_model.specs.StoreState.{shown}
use Rattle.store_model.specs.Asking.{clones, creates, deletes, fills, IsCopyJob, IsJobFor, resizes, snapshots, syncs}
use Rattle.store_model.specs.Maps.{Metas}
use Rattle.store_model.specs.Jobs.{AreLaid, IsLaid, LacksPages, LacksPagesFor, ReadsZeros, with_clusters, with_zeroed}
use Rattle.store_model.specs.Steady.{AreSteady, IsStored}
use Rattle.store_model.specs.RunInvariant.{RunsWell}
use Rattle.store_model.proofs.ChangedLive.{deleted_commit, made_commit}
use Rattle.store_model.proofs.CopyJobs.{clone_family, snapshot_family}
use Rattle.store_model.proofs.CreateStep.{create_ready, new_zeros}
use Rattle.store_model.proofs.DeleteJobs.{delete_family, erase_family}
use Rattle.store_model.proofs.FamilyReady.{family_ready}
use Rattle.store_model.proofs.FamilyStep.{IsFamilyJob}
use Rattle.store_model.proofs.Known.{Known}
use Rattle.store_model.proofs.LastJobs.{last_family}
use Rattle.store_model.proofs.LeftToDo.{chain_new, chain_there}
use Rattle.store_model.proofs.ListLaid.{lays_list, replaced_as, takes_least}
use Rattle.store_model.proofs.OneReplacement.{IsReady}
use Rattle.store_model.proofs.PhasesOfOne.{commits_phases, leads_one}
use Rattle.store_model.proofs.ReadyJob.{IsReadyJob}
use Rattle.store_model.proofs.ResizeAsked.{added_zeros}
use Rattle.store_model.proofs.ResizeStep.{resize_ready}
use Rattle.store_model.proofs.Resolved.{steady_resolved}
use Rattle.store_model.proofs.Sets.{among_first}
use Rattle.store_model.proofs.SyncStep.{sync_ready}

-- ---- the one replacement

-- the pages that it lacks
pub lacks_for_one : (base : Metas) (head : ℕ) (new : Meta) (bits : List Bool)
    → LacksPages (is_some (base head)) new bits
    → LacksPagesFor base (record { head = head; new = Some new } ∷ []) bits
lacks_for_one base head new bits x =
    let count : ℕ = if is_some (base head) then x.count else x.count + 1 in
    record { count = count; take = (count, 0, (x.count, x.needs, refl), refl, omega arith); lacking = x.lacking }

-- a replacement that gives a blob new metadata, or erases it
abbrev given : ℕ → Meta → Replacement
given head new = record { head = head; new = Some new }

abbrev gone : ℕ → Replacement
gone head = record { head = head; new = None }

pub none_long : (l : List ℕ) → length l ≡ 0 → l ≡ []
none_long [] e = refl
none_long (x ∷ xs) e = absurd (cc e)

-- without slots of zeros the list is as it is
pub plain_zeroed : (claimed : List ℕ) (list : List Replacement) → with_zeroed list [] claimed ≡ list
plain_zeroed claimed [] = refl
plain_zeroed claimed (x ∷ xs) = ap (λ o. record x { new = o } ∷ xs) (plain_new x.new)
  where
    plain_new : (o : Option Meta) → option_map (λ m. with_clusters m [] claimed) o ≡ o
    plain_new None = refl
    plain_new (Some m) = refl

-- ---- laid on pages

module _ (known : Known) where
  open known use {s, placed, first, script, p, facts}

  module _ (runs : p.stopped ≡ None) (claimed : List ℕ) (r : Replacing) (x : Replacement)
      (laid : IsLaid p.super p.base p.chains p.pages claimed x r) where
    well : RunsWell first p
    well = facts.well runs

    -- a blob that is there isn't made
    there_not_made : (m : Meta) → p.base r.head ≡ Some m → r.makes ≡ false
    there_not_made m there = elim (cases_Bool r.makes) [
      | inl makes ↦
          let chain = well.chains.chain r.head m there in
          absurd (let bad = sym chain.1 ∙ laid.chain ∙ chain_new r makes in cc bad)
      | inr not ↦ not
    ]

    -- and one that isn't is made
    none_made : p.base r.head ≡ None → r.makes ≡ true
    none_made none = elim (cases_Bool r.makes) [
      | inl makes ↦ makes
      | inr not ↦ absurd (let bad = sym (well.chains.none r.head none) ∙ laid.chain ∙ chain_there r not in cc bad)
    ]

    -- its head is a place of the region: the least that is clear
    made_low : p.base x.head ≡ None → x.head < p.super.md_len
    made_low none =
        let makes : r.makes ≡ true = none_made (ap p.base laid.head ∙ none) in
        let first : IsLeastClear p.pages r.head = (subst (λ b.
        AreLeastClear p.pages (if b then r.head ∷ r.fresh else r.fresh)) makes
        (takes_least p.super p.base p.chains p.pages claimed x r laid)).0 in
        let below = first.within in
        subst (λ h. h < p.super.md_len) laid.head (omega (arith, below, well.pages.count))

  -- ---- jobs of one replacement

  module _ (unmarked : HasNoMarks p.base) (runs : p.stopped ≡ None) (command : Command) (commit : Committing)
      (claimed : List ℕ) where
    -- what is known of the one replacement, whose clusters of zeros stand in its slots, is known of its phases
    one_ready : (x : Replacement) (new : Meta) → x.new ≡ Some new
        → ((r : Replacing) → IsLaid p.super p.base p.chains p.pages claimed x r
        → IsReady p claimed command commit new r)
        → (list : List Replacing) → AreLaid p.super p.base p.chains p.pages claimed (x ∷ []) list
        → IsReadyJob p claimed command 1 commit list
    one_ready x new is ready [] laid = absurd laid
    one_ready x new is ready (r ∷ r2 ∷ rs) laid = absurd laid.1
    one_ready x new is ready (r ∷ []) laid =
        let one = ready r laid.0 in
        let same : replaced p.base r ≡ with_replacement p.base x =
        replaced_as p.super p.base p.chains p.pages claimed x r laid.0 in
        let steady : AreSteady p.super (with_replacement p.base x) =
        subst (AreSteady p.super) same one.all_steady in
        record {
          lays = lays_list p.super p.base p.chains p.pages claimed (x ∷ []) (r ∷ []) 1 commit laid (
            λ m is_new. stored_as m is_new one,
            record {
              named = λ h m there. (steady h m
                  (ap (λ (y : Metas). y h) (sym (steady_resolved p.super (with_replacement p.base x) steady)) ∙ there)
                  ).named;
              few = subst (λ (m : Metas). slots_together p.super.md_len m ≤ 2 ^ 24) same one.few;
              lawful = subst (λ (m : Metas). IsLawful p.super.md_len (resolved m)) same one.lawful;
            },
            tt,
          ) (λ e. absurd (cc e));
          does = commits_phases (ReadsZeros p.super claimed) p.super p.base p.live command r commit [] one.step refl tt;
          unmarked = subst HasNoMarks (sym (leads_one r (Some commit) p.base))
              (λ h m there. (one.all_steady h m there).unmarked);
        }
      where
        stored_as : (m : Meta) → x.new ≡ Some m → IsReady p claimed command commit new r → IsStored p.super x.head m
        stored_as m is_new one =
            let e : new ≡ m = let both = sym is ∙ is_new in cc both in
            subst (IsStored p.super x.head) e
            (subst (λ h. IsStored p.super h new) laid.0.head one.steady.stored)

  -- ---- whatever the verb

  -- each job that a command asks for is ready, once it is laid on pages, with the least clear clusters in its slots of
  -- zeros
  module _ (unmarked : HasNoMarks p.base) (runs : p.stopped ≡ None) (command : Command) (commit : Committing)
      (claimed : List ℕ) (least : AreLeastClear p.clusters claimed) (list : List Replacing) where
    abbrev Ready : Changes → Type 0
    Ready changes = length claimed ≡ length changes.zero
        → AreLaid p.super p.base p.chains p.pages claimed (with_zeroed changes.list changes.zero claimed) list
        → IsReadyJob p claimed command changes.commit commit list

    -- of a job without such slots
    unclaimed : (changes : Changes) → changes.zero ≡ []
        → (AreLaid p.super p.base p.chains p.pages [] changes.list list
        → IsReadyJob p [] command changes.commit commit list) → Ready changes
    unclaimed changes none ready one_each laid =
        let nothing : claimed ≡ [] = none_long claimed (one_each ∙ ap (λ (l : List ℕ). length l) none) in
        subst (λ l. IsReadyJob p l command changes.commit commit list) (sym nothing)
        (ready (subst (λ l. AreLaid p.super p.base p.chains p.pages [] l list) (plain_zeroed [] changes.list)
        (subst (λ l. AreLaid p.super p.base p.chains p.pages l (with_zeroed changes.list [] l) list) nothing
        (subst (λ l. AreLaid p.super p.base p.chains p.pages claimed (with_zeroed changes.list l claimed) list) none
        laid))))

    -- of one on a family, whose commit is of a blob that it renews or erases
    family : (changes : Changes) → changes.zero ≡ [] → (before : ℕ) (y : Replacement) (ys : List Replacement)
        → drop before changes.list ≡ y ∷ ys → changes.commit ≡ before + 1
        → (is_among y.head commit.renews ≡ true) ⊎ (y.new ≡ None)
        → (AreLaid p.super p.base p.chains p.pages [] changes.list list → IsFamilyJob p command changes commit)
        → Ready changes
    family changes none before y ys commits number numbers is = unclaimed changes none (λ laid.
        family_ready known unmarked command changes commit (is laid) before y ys commits number numbers list laid)

    -- the first blob of a list is one that is there, or its head is a place of the region
    first_low : (x : Replacement) (xs : List Replacement) → AreLaid p.super p.base p.chains p.pages [] (x ∷ xs) list
        → p.base x.head ≡ None → x.head < p.super.md_len
    first_low x xs = by list
      where
        by : (l : List Replacing) → AreLaid p.super p.base p.chains p.pages [] (x ∷ xs) l → p.base x.head ≡ None
            → x.head < p.super.md_len
        by [] laid none = absurd laid
        by (r ∷ rs) laid none = made_low runs [] r x laid.0 none

    -- a clone or a snapshot
    copied : (copies : VolumeRef → Text → Command) (job : ℕ → Meta → ℕ → Xattrs → Changes) (renewed : ℕ → ℕ → List ℕ)
        (changes : Changes) (asks : IsCopyJob p copies job renewed command changes commit)
        → IsFamilyJob p (copies asks.volume asks.name)
        (job asks.of asks.old asks.head (two_xattrs (fixed_of p.super) (shown p) asks.name None))
        (record (made_commit asks.head (two_xattrs (fixed_of p.super) (shown p) asks.name None)) {
          renews = renewed asks.of asks.head;
        })
        → IsFamilyJob p command
        (job asks.of asks.old asks.head (two_xattrs (fixed_of p.super) (shown p) asks.name None)) commit
    copied copies job renewed changes asks is =
        let made = job asks.of asks.old asks.head (two_xattrs (fixed_of p.super) (shown p) asks.name None) in
        subst (λ (k : Command). IsFamilyJob p k made commit) (sym asks.command_is)
        (subst (λ (m : Committing). IsFamilyJob p (copies asks.volume asks.name) made m) (sym asks.commit_is) is)

    renewed_first : (h : ℕ) (hs : List ℕ) → commit.renews ≡ h ∷ hs → is_among h commit.renews ≡ true
    renewed_first h hs are = subst (λ l. is_among h l ≡ true) (sym are) (among_first h hs)

    pub job_ready : (changes : Changes) → IsJobFor p command changes commit → Ready changes
    job_ready changes (syncs y) = subst Ready (sym y.is) (unclaimed (one_of y.head y.new) refl
        (one_ready unmarked runs command commit [] (given y.head y.new) y.new refl
        (λ r laid. subst (λ (m : Committing). IsReady p [] command m y.new r) (sym y.commit_is)
        (sync_ready known unmarked runs command y.head y.new y.live y.asks r laid.head laid.new
        (there_not_made runs [] r (given y.head y.new) laid y.asks.old
        (ap p.base laid.head ∙ y.asks.there)))) list))
    job_ready changes (creates y) = subst Ready (sym y.is) (λ one_each laid.
        let bare = new_meta y.head (two_xattrs (fixed_of p.super) (shown p) y.name y.uuid) y.thick y.slots in
        let new = with_clusters bare (new_zeros y.thick y.slots) claimed in
        one_ready unmarked runs command commit claimed (given y.head new) new refl
        (λ r laid. create_ready known unmarked runs command changes commit y claimed least one_each
        (made_low runs claimed r (given y.head new) laid y.none) r laid.head laid.new) list laid)
    job_ready changes (resizes y) = subst Ready (sym y.is) (λ one_each laid.
        let new = with_clusters (resized_meta y.old y.slots)
        (added_zeros (is_thin y.old.flags) (length y.old.map) y.slots) claimed in
        one_ready unmarked runs command commit claimed (given y.head new) new refl
        (λ r laid. resize_ready known unmarked runs command changes commit y claimed least one_each r laid.head laid.new
        (there_not_made runs claimed r (given y.head new) laid y.old
        (ap p.base laid.head ∙ y.there))) list laid)
    job_ready changes (clones y) =
        let xattrs = two_xattrs (fixed_of p.super) (shown p) y.name None in
        subst Ready (sym y.is) (family (clone_job y.of y.old y.head xattrs) refl 0
        (given y.head (new_clone y.of y.old y.head xattrs)) [] refl refl
        (inl (renewed_first y.head [] (ap (λ (m : Committing). m.renews) y.commit_is)))
        (λ laid. copied c.Clone clone_job (λ of head. head ∷ []) changes y
        (clone_family known unmarked runs y.volume y.name y.named y.of y.head y.old y.there
        (ap (named_head (fixed_of p.super) (shown p)) (sym y.command_is) ∙ y.found) y.none
        (first_low (given y.head (new_clone y.of y.old y.head xattrs)) [] laid y.none)
        (ap (refusal (fixed_of p.super) (shown p)) (sym y.command_is) ∙ y.asked))))
    job_ready changes (snapshots y) =
        let xattrs = two_xattrs (fixed_of p.super) (shown p) y.name None in
        let first = given y.head (begun_snapshot y.of y.old y.head xattrs) in
        let second = given y.head (filled_snapshot y.of y.old y.head xattrs) in
        let third = given y.of (emptied_volume y.old y.head) in
        let fourth =
        given y.head (without_marks (filled_snapshot y.of y.old y.head xattrs)) in
        subst Ready (sym y.is) (family (snapshot_job y.of y.old y.head xattrs) refl 2 third (fourth ∷ []) refl refl
        (inl (renewed_first y.of (y.head ∷ []) (ap (λ (m : Committing). m.renews) y.commit_is)))
        (λ laid. copied c.Snapshot snapshot_job (λ of head. of ∷ head ∷ []) changes y
        (snapshot_family known unmarked runs y.volume y.name y.named y.of y.head y.old y.there
        (ap (named_head (fixed_of p.super) (shown p)) (sym y.command_is) ∙ y.found) y.none
        (first_low first (second ∷ third ∷ fourth ∷ []) laid y.none)
        (ap (refusal (fixed_of p.super) (shown p)) (sym y.command_is) ∙ y.asked))))
    job_ready changes (deletes y) = by y.clones y.clones_are y.is y.commit_is
      where
        found : head_of (fixed_of p.super) (shown p) y.volume ≡ Some y.of
        found = ap (named_head (fixed_of p.super) (shown p)) (sym y.command_is) ∙ y.found

        asked : refusal (fixed_of p.super) (shown p) (c.Delete y.volume) ≡ None
        asked = ap (refusal (fixed_of p.super) (shown p)) (sym y.command_is) ∙ y.asked

        served : (job : Changes) (renewed : List ℕ) → commit ≡ deleted_commit y.of renewed
            → IsFamilyJob p (c.Delete y.volume) job (deleted_commit y.of renewed) → IsFamilyJob p command job commit
        served job renewed are is = subst (λ (k : Command). IsFamilyJob p k job commit) (sym y.command_is)
            (subst (λ (m : Committing). IsFamilyJob p (c.Delete y.volume) job m) (sym are) is)

        by : (clones_of : List ℕ) → clones_below p.super.md_len p.base y.of ≡ clones_of
            → IsJobBeside p.base y.of y.old clones_of changes → commit ≡ deleted_commit y.of clones_of → Ready changes
        by [] none is are = subst Ready (sym is) (family (erase_job y.of) refl 0 (gone y.of) []
            refl refl (inr refl)
            (λ laid. served (erase_job y.of) [] are
            (erase_family known unmarked runs y.volume y.of y.old y.there asked found none)))
        by (clone ∷ []) one is are = subst Ready (sym is.2) (family (delete_job y.of y.old clone is.0) refl 1
            (given clone (heir_of is.0 y.old)) (gone y.of ∷ []) refl
            refl (inl (renewed_first clone [] (ap (λ (m : Committing). m.renews) are)))
            (λ laid. served (delete_job y.of y.old clone is.0) (clone ∷ []) are
            (delete_family known unmarked runs y.volume y.of y.old y.there asked found clone is.0 one is.1)))
        by (clone ∷ other ∷ rest) many is are = absurd is
    job_ready changes (fills y) =
        let parent = parent_blob p.base y.old in
        subst Ready (sym y.is) (family (fill_job y.kind y.head y.old parent) refl 0
        (given y.head (filled_blob y.kind y.old parent)) [] refl refl
        (inl (renewed_first y.head [] (ap (λ (m : Committing). m.renews) y.commit_is)))
        (λ laid. last_family known unmarked runs command changes commit y))
