-- The turn begins_insert.
use Rattle.std.proofs.Common.{◌≡◌, ◌≤◌, ◌^◌, ◌++◌, List, [], ◌∷◌, Some, None, true, false, refl, sym, ap}
use Rattle.std.proofs.Common.{◌∙◌, subst, inl, inr, arith}
use Rattle.std.specs.Option.{option_map_or}
use Rattle.std.proofs.lemmas.Bool.{cases_Bool}
use Rattle.std.specs.Prelude.{◌/◌}
use Rattle.super_block.specs.Numbers.{cluster_pages_of}
use Rattle.blob_meta.specs.declared.meta.Meta.{Meta}
use Rattle.blob_meta.specs.Repairs.{HasNoMarks}
use Rattle.blob_meta.specs.Resolving.{IsLawful, resolved, slots_together}
use Rattle.store_model.specs.Copying.{HasCopied}
use Rattle.store_model.specs.Inserting.{with_slot}
use Rattle.store_model.specs.Jobs.{CanReplace, gained_by, InsertStands, IsPlannedFor, JobStands, Lays, PutsClaim}
use Rattle.store_model.specs.Steady.{AreNamed, AreSteady, IsSteady, IsStored}
use Rattle.store_model.specs.Maps.{Metas, with_entry}
use Rattle.store_model.specs.Phases.{phases_of, erasing, page_in, Phase, replaced, Replaces, Replacing, taken_by}
use Rattle.store_model.specs.Places.{all_set, AreDistinct, claimed_by, HasClaim}
use Rattle.store_model.specs.Regions.{region_of}
use Rattle.store_model.specs.Rows.{InJob, OpenClaim, Row, Stage, with_row}
use Rattle.store_model.specs.Scans.{MetaAt}
use Rattle.store_model.specs.StoreState.{ForInsert, JobState, StoreState}
use Rattle.store_model.specs.Cases.BeginInsert as case
use Rattle.store_model.specs.Cases.BeginInsert.{BeginsInsert}
use Rattle.store_model.specs.RunInvariant.{RunInvariant, RunsWell}
use Rattle.store_model.proofs.Claims.{with_row_same}
use Rattle.store_model.proofs.Copies.{copied_same, row_no_more}
use Rattle.store_model.proofs.FactsKept.{claims_kept}
use Rattle.store_model.proofs.Heads.{replaced_is}
use Rattle.shown_volumes.proofs.Inside.{IsInside}
use Rattle.store_model.proofs.InsertedBlob.{inserted_steady, lawful_inserted, slots_inserted}
use Rattle.store_model.proofs.JobBegun.{begun_keeps}
use Rattle.store_model.proofs.Known.{Known}
use Rattle.store_model.proofs.LeftToDo.{no_place, chain_new}
use Rattle.store_model.proofs.OneReplacement.{all_steady, base_lawful, base_steady, base_resolved}
use Rattle.store_model.proofs.Over.{Effect, nothing, stays, TurnLaw}
use Rattle.store_model.proofs.Phases.{old_pages, puts_behind}
use Rattle.store_model.proofs.PhasesOfOne.{held_one, lays_one, leads_one, some_phase}
use Rattle.store_model.proofs.RowsKept.{row_here, row_same}
use Rattle.store_model.proofs.Sets.{are_distinct}
use Rattle.store_model.proofs.Shaped.{holding_may, none_without, Serves, shaped_with}
use Rattle.store_model.proofs.Shapes.{Idles, idles_begun, untouched_images}
use Rattle.store_model.proofs.Resolved.{steady_resolved}
use Rattle.store_model.proofs.Used.{within}

module _ (known : Known) where
  open known use {s, placed, first, script, p, facts}

  module _ (q : StoreState) (t : BeginsInsert p q) where
    open t.posted use {row, left, claim}

    well : RunsWell first p
    well = facts.well t.runs

    abbrev r : Replacing
    r = t.replacing

    abbrev new : Meta
    new = with_slot t.meta claim.slot claim.cluster

    held_it : (p.rows row).claim ≡ Some claim
    held_it = ap (λ (x : Row). x.claim) t.posted.is

    claimed : HasClaim p.rows p.job claim.cluster
    claimed = inl (record { channel = row; claim = claim; held = held_it; is = refl })

    -- ---- the metadata

    inside : IsInside (region_of p.super).fixed (region_of p.super).clusters claim.cluster
    inside =
        let low = within p.clusters claim.cluster (well.clusters.claimed_too claim.cluster claimed) in
        record {
          behind = (well.clusters.apart claim.cluster claimed).0;
          below = omega (arith, low, well.clusters.count);
        }

    old_steady : IsSteady p.super claim.head t.meta
    old_steady = base_steady known t.repaired claim.head t.meta t.can.there

    one_steady : IsSteady p.super claim.head new
    one_steady = inserted_steady t.meta claim.slot claim.cluster t.can.within t.can.empty p.super claim.head inside
        old_steady

    abbrev all : Metas
    all = with_entry p.base claim.head new

    base_now : replaced p.base r ≡ all
    base_now = replaced_is p.base r new t.laid.new ∙ ap (λ h. with_entry p.base h new) t.laid.head

    all_are : AreSteady p.super all
    all_are = all_steady known t.repaired claim.head new one_steady

    lawful : IsLawful p.super.md_len all
    lawful = lawful_inserted t.meta claim.slot claim.cluster t.can.within t.can.empty p.base claim.head t.can.there
        p.super.md_len old_steady.stored.low (well.clusters.apart claim.cluster claimed).1
        (base_lawful known t.repaired)

    few : slots_together p.super.md_len all ≤ 2 ^ 24
    few =
        let same = slots_inserted t.meta claim.slot claim.cluster t.can.within t.can.empty p.base claim.head
        t.can.there p.super.md_len old_steady.stored.low in
        let was = (base_lawful known t.repaired).few in
        omega (arith, same, was)

    -- ---- the replacement

    planned : IsPlannedFor p.super p.pages new r
    planned = t.laid.planned

    there : r.makes ≡ false
    there = elim (cases_Bool r.makes) [
      | inl makes ↦
          let chain = well.chains.chain claim.head t.meta t.can.there in
          absurd (let bad = sym chain.1 ∙ ap p.chains (sym t.laid.head) ∙ t.laid.chain ∙ chain_new r makes in cc bad)
      | inr not ↦ not
    ]

    can : CanReplace p.super p.base p.chains (claim.cluster ∷ []) r.fresh r
    can = record {
      all = refl;
      places = planned.places;
      says = λ m is. let e : new ≡ m = let both = sym t.laid.new ∙ is in cc both in
          subst (λ (n : Meta). MetaAt (page_in r.planned) (region_of p.super) r.head n (r.head ∷ r.fresh)) e
          planned.says;
      stored = λ m is. let e : new ≡ m = let both = sym t.laid.new ∙ is in cc both in
          subst (λ (n : Meta). IsStored p.super r.head n) e
          (subst (λ h. IsStored p.super h new) (sym t.laid.head) one_steady.stored);
      named = subst (λ (m : Metas). AreNamed (resolved m)) (sym base_now)
          (λ h m is. (all_are h m (ap (λ (x : Metas). x h) (sym (steady_resolved p.super all all_are)) ∙ is)).named);
      gone = λ none. absurd (let bad = sym t.laid.new ∙ none in cc bad);
      chain = t.laid.chain;
      unerased = t.laid.unerased;
      few = subst (λ (m : Metas). slots_together p.super.md_len m ≤ 2 ^ 24) (sym base_now) few;
      lawful = subst (λ (m : Metas). IsLawful p.super.md_len (resolved m)) (sym base_now)
          (subst (IsLawful p.super.md_len) (sym (steady_resolved p.super all all_are)) lawful);
      clusters = t.laid.clusters;
    }

    -- ---- the job

    abbrev rest : List Phase
    rest = erasing r.old r.old []

    abbrev todo : List Phase
    todo = phases_of r None []

    abbrev job : JobState
    job = record { serves = ForInsert row; freeze = None; claimed = []; written = []; todo = todo }

    abbrev next : Row
    next = record { left = left; stage = InJob; claim = Some claim }

    abbrev now : StoreState
    now = record p {
      rows = with_row p.rows row next;
      job = Some job;
      pages = all_set p.pages (taken_by r) true;
    }

    here : now.rows row ≡ next
    here = row_here p.rows row next row refl

    gained : gained_by now.rows job ≡ claim.cluster ∷ []
    gained = ap (λ (x : Row). option_map_or (λ (c : OpenClaim). c.cluster ∷ []) x.claim [] ++ []) here

    puts : PutsClaim now row r
    puts = record {
      claim = claim;
      held = ap (λ (x : Row). x.claim) here;
      wanted = record {
        current = t.can.current;
        meta = t.meta;
        there = ap (λ (m : Metas). m claim.head) (base_resolved known t.repaired) ∙ t.can.there;
        empty = t.can.empty;
      };
      within = t.can.within;
      head = t.laid.head;
      there = there;
      new = t.laid.new;
    }

    stands : JobStands now job
    stands = record {
      lays = subst (λ l. Lays p.super p.base p.chains l [] todo) (sym gained)
          (lays_one r None p.super p.base p.chains (claim.cluster ∷ []) can);
      distinct = subst AreDistinct (sym (held_one r None)) (are_distinct p.pages (taken_by r) planned.least);
      served = λ c bad. absurd (cc bad);
      keeps = λ none other. absurd (other row refl);
      settles = λ other. subst HasNoMarks (sym (leads_one r None p.base ∙ base_now))
          (λ h m is. (all_are h m is).unmarked);
      mends = λ bad. absurd (cc bad);
      zeroed = λ page among out. absurd (no_place [] (page / cluster_pages_of p.super) among refl);
      inserts = λ c serves.
          let e : row ≡ c = cc serves in
          subst (InsertStands now job) e (record {
            unmarked = t.repaired;
            waits = ap (λ (x : Row). x.stage) here;
            thaws = refl;
            unclaimed = refl;
            puts = puts_behind now row r.fresh (Replaces r None ∷ rest) (puts, old_pages r.old r.old);
          });
    }

    -- ---- it keeps what every state has

    pub keeps : RunInvariant s first script q
    keeps =
        let serves_it : Serves now row = record { job = job; is = refl; waits = refl } in
        subst (RunInvariant s first script) (sym t.next)
        (begun_keeps known t.runs t.no_job now.rows job (taken_by r) p.clusters (held_one r None) planned.least
        (claims_kept first p now well refl refl refl refl (with_row_same p.rows row next (sym held_it))
        (sym (ap claimed_by t.no_job)) (copied_same p now well.copied refl refl refl
        (row_no_more (cluster_pages_of p.super) p.rows row next (λ other page holds has. record {
          held = held_it ∙ holds;
          copied = subst (λ (x : Stage). HasCopied (cluster_pages_of p.super) x page)
              (sym (ap (λ (x : Row). x.stage) t.posted.is)) has;
        })) refl)) stands (row_same p.rows row next (λ x. x.left) (sym (ap (λ (x : Row). x.left) t.posted.is)))
        (shaped_with p facts.shaped now row next refl
        (λ c ne in_job. absurd (none_without p facts.shaped t.no_job c in_job))
        (holding_may now row left InJob claim tt (λ serial bad. absurd (cc bad)) (λ _. serves_it))
        (λ j c is serves _.
        let same : job ≡ j = cc is in
        absurd (let bad = ap (λ (i : JobState). i.serves) same ∙ serves in cc bad)))
        (some_phase r None []))

pub law : TurnLaw case.kind
law = record {
  keeps = λ _ told known q t. keeps known q t;
  effect = λ told p q t. subst (Effect p) (sym t.next) (record { goes = stays refl refl; logs = nothing refl refl });
  images = λ d x t does. untouched_images d x does (subst (Idles x.p) (sym t.next)
      (idles_begun x.p _ refl refl refl _ refl refl refl));
  job = λ of. absurd of;
}
