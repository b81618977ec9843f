-- The turn inserts keeps what every state has.
use Rattle.std.proofs.Common.{◌⊎◌, ◌≡◌, ◌≢◌, ℕ, ◌++◌, Bool, List, [], ◌∷◌, Option, Some, None, refl}
use Rattle.std.proofs.Common.{sym, ap, ◌∙◌, subst, inl, inr, arith, is_some}
use Rattle.std.specs.Option.{option_map_or}
use Rattle.std.proofs.lemmas.Bool.{cases_eq}
use Rattle.volume_model.specs.Xattrs.{Xattrs}
use Rattle.blob_meta.specs.declared.meta.Meta.{Meta}
use Rattle.blob_meta.specs.Repairs.{HasNoMarks}
use Rattle.blob_meta.specs.Resolving.{resolved}
use Rattle.store_model.specs.Claiming.{stage_behind}
use Rattle.store_model.specs.Inserting.{with_slot}
use Rattle.store_model.specs.Jobs.{gained_by, inserted_by, InsertStands, JobStands, Lays, IsLeftOfInsert}
use Rattle.store_model.specs.Jobs.{PutsClaim}
use Rattle.store_model.specs.Steady.{CanBeWritten}
use Rattle.store_model.specs.Maps.{Chains, Metas, with_entry}
use Rattle.store_model.specs.Phases.{behind, Phase, rechained, replaced}
use Rattle.store_model.specs.Phases.{Replaces, Replacing, taken_in}
use Rattle.store_model.specs.Places.{claimed_by, IsMapped, UsedPages}
use Rattle.store_model.specs.Rows.{InJob, OpenClaim, Row, with_row}
use Rattle.store_model.specs.StoreState.{going_on, JobState, StoreState, waiting}
use Rattle.store_model.specs.Cases.Insert.{Inserts}
use Rattle.store_model.specs.RunInvariant.{HaveChains, RunInvariant}
use Rattle.store_model.proofs.FactsKept.{facts_with, log_stays, metadata_replaced, MetadataKept}
use Rattle.store_model.proofs.Guarding.{none_frozen_by, none_guarded}
use Rattle.store_model.proofs.InsertedBlob.{inserted_mapped, mapped_still, mapped_then}
use Rattle.store_model.proofs.InsertedClusters.{differ_inserted, drawn_inserted, used_inserted}
use Rattle.store_model.proofs.JobKept.{no_other}
use Rattle.store_model.proofs.InsertShown as before
use Rattle.store_model.proofs.Known.{Known}
use Rattle.std.specs.Prelude.{◌/◌}
use Rattle.super_block.specs.Numbers.{cluster_pages_of}
use Rattle.store_model.proofs.LeftToDo.{no_place, goes_on_as, held_after, none_claimed_after}
use Rattle.store_model.proofs.OneReplacement.{base_resolved}
use Rattle.store_model.proofs.Phases.{puts_none}
use Rattle.store_model.proofs.RowsKept.{row_here, row_same}
use Rattle.store_model.proofs.SameBlobs.{had_blob, had_none, same_generations}
use Rattle.store_model.proofs.Shaped.{MayBe, shaped_with}
use Rattle.store_model.proofs.Resolved.{unmarked_resolved}
use Rattle.store_model.proofs.StateKept.{runs_here}
use Rattle.store_model.proofs.UsedCommitted.{used_committed}
use Rattle.store_model.proofs.WithEntry.{given_elsewhere, given_here}

module _ (known : Known) where
  open known use {s, placed, first, script, p, facts}

  module _ (told : Bool) (q : StoreState) (t : Inserts told p q) where
    open t.inserting use {row, serves}

    abbrev j : JobState
    j = t.running.job

    abbrev r : Replacing
    r = t.replacing

    abbrev rest : List Phase
    rest = t.running.rest

    abbrev next_job : Option JobState
    next_job = going_on j [] rest

    abbrev next : Row
    next = record { left = (p.rows row).left; stage = stage_behind rest; claim = None }

    abbrev now : StoreState
    now = record p {
      base = with_entry p.base r.head t.new;
      chains = with_entry p.chains r.head (r.head ∷ r.fresh);
      rows = with_row p.rows row next;
      job = next_job;
      device = t.device;
    }

    open before.replacement known told q t use {well, stood, lays, can, differ, used, left, chains}

    inserts : InsertStands p j row
    inserts = before.inserts known told q t

    puts : IsLeftOfInsert p row (Replaces r None ∷ rest)
    puts = before.puts known told q t

    abbrev put : PutsClaim p row r
    put = before.put known told q t

    abbrev claim : OpenClaim
    claim = before.claim known told q t

    abbrev old : Meta
    old = before.old known told q t

    there : p.base claim.head ≡ Some old
    there = before.there known told q t

    base_is : replaced p.base r ≡ now.base
    base_is = before.base_is known told q t

    chains_are : rechained p.chains r ≡ now.chains
    chains_are = before.chains_are known told q t

    base_all : now.base ≡ with_entry p.base claim.head (with_slot old claim.slot claim.cluster)
    base_all = before.base_all known told q t

    now_unmarked : HasNoMarks now.base
    now_unmarked = before.now_unmarked known told q t

    -- ---- blobs

    -- a blob is there as before
    had : (h : ℕ) → is_some (now.base h) ≡ is_some (p.base h)
    had h = ap (λ (m : Metas). is_some (m h)) base_all ∙ elim (cases_eq h claim.head) [
      | inl e ↦ ap is_some (given_here p.base claim.head _ h e) ∙ sym (ap is_some (ap p.base e ∙ there))
      | inr ne ↦ ap is_some (given_elsewhere p.base claim.head _ h ne)
    ]

    had_resolved : (h : ℕ) → is_some (resolved now.base h) ≡ is_some (resolved p.base h)
    had_resolved h =
        ap (λ (m : Metas). is_some (m h)) (unmarked_resolved now.base now_unmarked) ∙ had h
        ∙ ap (λ (m : Metas). is_some (m h)) (sym (base_resolved known inserts.unmarked))

    live : (h : ℕ) (m : Meta) → resolved now.base h ≡ Some m
        → (xattrs : Xattrs) × (p.live h ≡ Some xattrs) × CanBeWritten xattrs
    live h m is =
        let was = had_blob (resolved p.base) (resolved now.base) had_resolved h m is in well.live h was.0 was.1

    -- ---- the row and the job

    here : now.rows row ≡ next
    here = row_here p.rows row next row refl

    stands_next : (k : JobState) → next_job ≡ Some k → JobStands now k
    stands_next k is =
        let g = goes_on_as j [] rest k is in
        let gained : gained_by now.rows j ≡ [] =
        ap (λ x. inserted_by now.rows x ++ j.claimed) serves
        ∙ ap (λ (x : Row). option_map_or (λ (c : OpenClaim). c.cluster ∷ []) x.claim [] ++ j.claimed) here
        ∙ inserts.unclaimed in
        let stands : JobStands now (record j { written = []; todo = rest }) =
        record {
          lays = subst (λ l. Lays p.super now.base now.chains l [] rest) (sym gained)
              (subst (λ (m : Metas). Lays p.super m now.chains [] [] rest) base_is
              (subst (λ (h : Chains). Lays p.super (replaced p.base r) h [] [] rest) chains_are lays.2));
          distinct = left;
          served = λ c bad waits. absurd (let both = sym serves ∙ bad in cc both);
          keeps = λ none other. absurd (other row serves);
          settles = λ other. subst HasNoMarks (ap (behind p.base) t.running.next ∙ ap (λ (m : Metas). behind m rest)
              base_is) (stood.settles other);
          mends = λ repair. absurd (let bad = sym serves ∙ repair in cc bad);
          zeroed = λ page among out. absurd (no_place j.claimed (page / cluster_pages_of p.super) among
              inserts.unclaimed);
          inserts = λ c is_for.
              let e : row ≡ c = let both = sym serves ∙ is_for in cc both in
              subst (InsertStands now (record j { written = []; todo = rest })) e (record {
                unmarked = now_unmarked;
                waits = ap (λ (x : Row). x.stage) here ∙ still_in rest g.some;
                thaws = inserts.thaws;
                unclaimed = inserts.unclaimed;
                puts = puts_none now row rest puts.1;
              });
        } in
        subst (JobStands now) (sym g.is) stands
      where
        still_in : (todo : List Phase) → todo ≢ [] → stage_behind todo ≡ InJob
        still_in [] some = absurd (some refl)
        still_in (x ∷ xs) some = refl

    may : MayBe now row next
    may = by rest refl
      where
        by : (todo : List Phase) → rest ≡ todo → MayBe now row (record next { stage = stage_behind todo })
        by [] is = record {
          posted = λ serial bad. absurd (cc bad);
          in_job = λ bad. absurd (cc bad);
          ended = λ bad. absurd (cc bad);
          claims = λ other bad. absurd (cc bad);
        }
        by (x ∷ xs) is = record {
          posted = λ serial bad. absurd (cc bad);
          in_job = λ _. record {
            job = record j { written = []; todo = x ∷ xs };
            is = ap (going_on j []) is;
            waits = ap (λ o. waiting o (x ∷ xs)) serves;
          };
          ended = λ bad. absurd (cc bad);
          claims = λ other bad. absurd (cc bad);
        }

    pub keeps : RunInvariant s first script q
    keeps =
        let clock = t.moves.clock in
        let none_claimed : claimed_by next_job ≡ [] = none_claimed_after j [] rest inserts.unclaimed in
        let none_before : claimed_by p.job ≡ [] = ap claimed_by t.running.is ∙ inserts.unclaimed in
        let then_was : (c : ℕ) → IsMapped now.base c → IsMapped p.base c ⊎ (c ≡ claim.cluster) =
        λ c m. mapped_then old claim.slot claim.cluster put.within put.wanted.empty p.base claim.head
        there c (subst (λ (b : Metas). IsMapped b c) base_all m) in
        let still : (c : ℕ) → IsMapped p.base c → IsMapped now.base c = λ c m. subst (λ (b : Metas). IsMapped b c)
        (sym base_all)
        (mapped_still old claim.slot claim.cluster put.within put.wanted.empty p.base claim.head there c m) in
        let filled : IsMapped now.base claim.cluster = subst (λ (b : Metas). IsMapped b claim.cluster) (sym base_all)
        (inserted_mapped old claim.slot claim.cluster put.within put.wanted.empty p.base claim.head there) in
        let done_so : RunInvariant s first script now =
        facts_with known now refl (subst (MetadataKept known) base_is
        (metadata_replaced known (gained_by p.rows j) j.written r can)) (record {
          logs = log_stays known now refl refl refl (row_same p.rows row next (λ x. x.left) refl)
              (omega (arith, clock));
          well = λ on. record {
            chains = subst (HaveChains p.super now.base) chains_are
                (subst (λ (m : Metas). HaveChains p.super m (rechained p.chains r)) base_is chains);
            live = live;
            no_live = λ h none. well.no_live h (had_none (resolved p.base) (resolved now.base) had_resolved h none);
            pages = subst (UsedPages p.super.md_len p.pages now.chains) (sym (held_after j [] rest ∙ lays.1))
                (used_committed p.super p.base p.chains well.chains p.pages r (taken_in rest) can.chain can.unerased
                used differ);
            clusters = used_inserted p row next claim put.held refl next_job none_before none_claimed well.clusters
                well.claims now.base then_was still filled;
            claims = differ_inserted p row next claim put.held refl next_job none_before none_claimed well.clusters
                well.claims now.base then_was still filled;
            generations = same_generations p.base now.base had p.generations p.drawn well.generations;
            copied = before.copied known told q t;
            claims_drawn = drawn_inserted p row next claim put.held refl next_job none_before none_claimed
                well.clusters well.claims now.base then_was still filled well.claims_drawn;
            job = stands_next;
            replayed = before.shows known told q t ∙ well.replayed;
          };
          shaped = shaped_with p facts.shaped now row next refl
              (no_other known j t.running.is row (ap (λ x. waiting x j.todo) serves) now) may
              (λ k c is for_command waits.
              let g = goes_on_as j [] rest k is in
              absurd (let both = sym serves ∙ ap (λ (i : JobState). i.serves) (sym g.is) ∙ for_command in cc both));
          guarded = none_guarded now (none_frozen_by p facts.guarded j t.running.is inserts.thaws);
          halted = λ n halts. absurd (runs_here known n t.running.runs halts);
          unfinished = λ k is.
              let g = goes_on_as j [] rest k is in
              subst (λ (i : JobState). i.todo ≢ []) (sym g.is) g.some;
        }) in
        subst (RunInvariant s first script) (sym t.next) done_so
