-- The turn insert_ends.
use Rattle.std.proofs.Common.{
  ◌≡◌,
  ◌++◌,
  ℕ,
  Bool,
  List,
  [],
  ◌∷◌,
  Option,
  Some,
  None,
  false,
  refl,
  subst,
  sym,
  ap,
  ◌∙◌,
  arith,
}
use Rattle.std.specs.Prelude.{true}
use Rattle.std.specs.Option.{option_map_or}
use Rattle.super_block.specs.Numbers.{cluster_pages_of}
use Rattle.volume_model.specs.Volumes.{zero_page}
use Rattle.md_chain.specs.Chain.{is_among}
use Rattle.store_model.specs.Copying.{AreCopied}
use Rattle.store_model.specs.Jobs.{gained_by, inserted_by, InsertStands, JobStands, Lays}
use Rattle.store_model.specs.Phases as phase
use Rattle.store_model.specs.Phases.{held_in, taken_in}
use Rattle.store_model.specs.Places.{all_set, AreDistinct, claimed_by, held_by, UsedPages}
use Rattle.store_model.specs.Rows.{Decided, OpenClaim, Row, with_row, Won}
use Rattle.store_model.specs.StoreState.{ForInsert, JobState, shown, StoreState, waiting}
use Rattle.store_model.specs.Touches.{puts}
use Rattle.store_model.specs.Turning.{page_of_place}
use Rattle.store_model.specs.Cases.InsertEnd as case
use Rattle.store_model.specs.Cases.InsertEnd.{InsertEnds}
use Rattle.store_model.specs.RunInvariant.{RunInvariant, RunsWell}
use Rattle.store_model.proofs.Claims.{with_row_same}
use Rattle.store_model.proofs.Copies.{copied_same, row_unclaimed}
use Rattle.store_model.proofs.FactsKept.{claims_kept, facts_kept, log_stays, runs_on}
use Rattle.store_model.proofs.Going.{left_of}
use Rattle.store_model.proofs.Guarding.{none_frozen_by, none_guarded}
use Rattle.store_model.proofs.JobKept.{copied_put, held_is, held_low, no_other, written_same}
use Rattle.store_model.proofs.Known.{Known}
use Rattle.store_model.proofs.LeftToDo.{among_left}
use Rattle.store_model.proofs.Over.{Effect, known_of, moves, no_less, nothing, TurnLaw}
use Rattle.store_model.proofs.RowsKept.{row_same}
use Rattle.store_model.proofs.Shaped.{outcome_may, shaped_with}
use Rattle.store_model.proofs.Shapes.{place_images}
use Rattle.store_model.proofs.StateKept.{runs_here}
use Rattle.store_model.proofs.Used.{used_freed}

-- ---- it keeps what every state has

first_none : (xs ys : List ℕ) → xs ++ ys ≡ [] → xs ≡ []
first_none [] ys none = refl
first_none (x ∷ xs) ys none = absurd (cc none)

module _ (known : Known) where
  open known use {s, placed, first, script, p, facts}

  module _ (told : Bool) (q : StoreState) (t : InsertEnds told p q) where
    open t.inserting use {row, serves}

    abbrev j : JobState
    j = t.running.job

    well : RunsWell first p
    well = facts.well t.running.runs

    stood : JobStands p j
    stood = well.job j t.running.is

    inserts : InsertStands p j row
    inserts = stood.inserts row serves

    lays : Lays p.super p.base p.chains (gained_by p.rows j) j.written (phase.Frees t.place t.old ∷ [])
    lays = subst (λ l. Lays p.super p.base p.chains (gained_by p.rows j) j.written (phase.Frees t.place t.old ∷ l))
        t.last
        (subst (Lays p.super p.base p.chains (gained_by p.rows j) j.written) t.running.next stood.lays)

    -- its claim has ended with the replacement
    unclaimed : (p.rows row).claim ≡ None
    unclaimed = by (p.rows row).claim refl
      where
        none : inserted_by p.rows (ForInsert row) ≡ []
        none = ap (inserted_by p.rows) (sym serves) ∙ first_none (inserted_by p.rows j.serves) j.claimed lays.3.1

        by : (o : Option OpenClaim) → (p.rows row).claim ≡ o → (p.rows row).claim ≡ None
        by None is = is
        by (Some claim) is =
            let bad : claim.cluster ∷ [] ≡ [] =
            ap (λ o. option_map_or (λ (c : OpenClaim). c.cluster ∷ []) o []) (sym is) ∙ none in
            absurd (cc bad)

    held : held_by p.job ≡ t.old ++ []
    held = held_is known j t.running.is (phase.Frees t.place t.old) t.running.rest t.running.next
        ∙ ap (λ l. t.old ++ taken_in l) t.last

    pub is_held : is_among t.place (held_by p.job) ≡ true
    is_held = ap (is_among t.place) held ∙ among_left t.place t.old [] lays.1

    abbrev next : Row
    next = record { left = (p.rows row).left; stage = Decided Won; claim = None }

    abbrev now : StoreState
    now = record p {
      rows = with_row p.rows row next;
      job = None;
      pages = all_set p.pages t.old false;
      device = t.device;
    }

    abbrev mid : StoreState
    mid = record p { job = None; pages = all_set p.pages t.old false; device = t.device }

    pub keeps : RunInvariant s first script q
    keeps =
        let clock = t.moves.clock in
        let low = held_low known well (held_by p.job) refl t.place is_held in
        let same : shown mid ≡ shown p = written_same known told mid t.place zero_page refl low t.moves.reads in
        let read : AreCopied mid = copied_put known told mid t.place zero_page refl refl refl refl well low
        t.moves.reads in
        let differ : AreDistinct (t.old ++ []) = subst (λ l. AreDistinct (t.old ++ taken_in l)) t.last
        (subst AreDistinct (ap held_in t.running.next) stood.distinct) in
        let freed : UsedPages p.super.md_len now.pages p.chains [] =
        used_freed p.super.md_len p.pages p.chains t.old [] differ
        (subst (UsedPages p.super.md_len p.pages p.chains) held well.pages) in
        let done : RunInvariant s first script now =
        facts_kept known now refl refl (record {
          logs = log_stays known now refl refl refl (row_same p.rows row next (λ x. x.left) refl)
              (omega (arith, clock));
          well = λ on. runs_on first p now well refl (record {
            pages = freed;
            held = claims_kept first p now well refl refl refl refl (with_row_same p.rows row next (sym unclaimed))
                (sym (ap claimed_by t.running.is ∙ inserts.unclaimed))
                (copied_same mid now read refl refl refl
                (row_unclaimed (cluster_pages_of p.super) p.rows row next refl) refl);
            job = λ k is. absurd (cc is);
            replayed = same ∙ well.replayed;
          });
          shaped = shaped_with p facts.shaped now row next refl
              (no_other known j t.running.is row (ap (λ x. waiting x j.todo) serves) now)
              (outcome_may Won now row (p.rows row).left)
              (λ k c bad is_for waits. absurd (cc bad));
          guarded = none_guarded now (none_frozen_by p facts.guarded j t.running.is inserts.thaws);
          halted = λ n halts. absurd (runs_here known n t.running.runs halts);
          unfinished = λ k is. absurd (cc is);
        }) in
        subst (RunInvariant s first script) (sym t.next) done

pub law : TurnLaw case.kind
law = record {
  keeps = λ _ told known q t. keeps known told q t;
  effect = λ told p q t. subst (Effect p) (sym t.next)
      (record {
        goes = moves t.running.runs refl t.moves.write_faults (no_less t.moves.read_faults);
        logs = nothing refl refl;
      });
  images = λ d x t does.
      let none : x.q.job ≡ None = ap (λ (v : StoreState). v.job) t.next in
      place_images d x t.running.runs t.place (is_held (known_of x) d.tells x.q t) zero_page (x.laws.jobs.zeros t.place)
      _ t.next refl refl refl 2 t.moves
      (left_of d x (puts (page_of_place x.p t.place) zero_page true) does)
      (λ job is. absurd (let bad = sym none ∙ is in cc bad));
  job = λ of. absurd of;
}
