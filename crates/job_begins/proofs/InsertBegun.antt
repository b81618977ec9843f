-- The begin of an insert, as a case: the job begins, its claim is lost, or the command that its row works for is
-- logged.
use Rattle.std.proofs.Common.{◌≡◌, ℕ, ◌<◌, Bool, true, false, List, [], length, Some, None}
use Rattle.std.proofs.Common.{refl, sym, ◌∙◌, ap}
use Rattle.std.specs.Prelude.{is_some, slice_index_or, slice_set}
use Rattle.page_disk.specs.declared.disk.PageDisk.{Ghosts}
use Rattle.volume_model.specs.declared.reply.Reply.{Reply}
use Rattle.volume_model.specs.declared.reply.Reply.TheVariants as r
use Rattle.blob_meta.specs.Repairs.{HasNoMarks}
use Rattle.blob_meta.specs.declared.meta.Meta.{Meta}
use Rattle.store_model.specs.Cases as kind
use Rattle.store_model.specs.Cases.BeginInsert.{BeginsInsert}
use Rattle.store_model.specs.Claiming.{CanInsert, IsCopying}
use Rattle.store_model.specs.Filling.{FillStands}
use Rattle.store_model.specs.Inserting.{with_slot}
use Rattle.store_model.specs.Jobs.{LacksPages}
use Rattle.store_model.specs.Rows.{Answered, Decided, InJob, Lost, OpenClaim, Posted, Row, Rows, with_row}
use Rattle.store_model.specs.StoreState.{marked, StoreState}
use Rattle.job_begins.specs.Begins.{no_effects, planned_with}
use Rattle.job_begins.specs.Inserts.{HoldsPosted, IsLack}
use Rattle.running_store.specs.Jobs.{replacing_of, writing_for}
use Rattle.running_store.specs.RunningState.{IsRunning}
use Rattle.running_store.specs.StoreView.{StoreView, rows_of, state_of}
use Rattle.running_store.specs.GivingBack.{row_given_back, IsGivenUp}
use Rattle.running_store.specs.TurnMade.{TurnMade, TurnsAs}
use Rattle.running_store.specs.declared.replacements.Planned.{Planned}
use Rattle.running_store.specs.declared.job.Serves.TheVariants as whom
use Rattle.job_begins.specs.declared.preparing.Prepared.{Prepared}
use Rattle.job_begins.specs.Begins.{IsPrepared, IsUnprepared}
use Rattle.channel_turns.proofs.GivenUp.{copying}
use Rattle.job_begins.proofs.InsertReady.{has_chain, moves, ready}
use Rattle.running_store.proofs.GivenBack.{state_given_back}
use Rattle.running_store.proofs.Rowing.{row_read, rows_set}
use Rattle.running_store.proofs.WorkLogged.{row_low, work_disk, work_logged, work_low}

-- a posted row, by the claim that it is known to hold
pub posted_as : {D : Type 0} (d : Ghosts D) (p : StoreView D) (row : ℕ) (x : HoldsPosted d p row) (claim : OpenClaim)
    → (rows_of p.rows row).claim ≡ Some claim → x.holds.claim ≡ claim
posted_as d p row x claim is =
    let both : Some x.holds.claim ≡ Some claim = sym (ap (λ (r : Row). r.claim) x.holds.is) ∙ is in cc both

abbrev pub posted_with : {D : Type 0} (d : Ghosts D) (p : StoreView D) (row : ℕ) (x : HoldsPosted d p row)
    (claim : OpenClaim) → (rows_of p.rows row).claim ≡ Some claim → HoldsPosted d p row
posted_with d p row x claim is = record {
  serial = x.serial;
  holds = record {
    left = x.holds.left;
    claim = claim;
    is = x.holds.is ∙ ap (λ o. record { left = x.holds.left; stage = Posted x.serial; claim = Some o })
        (posted_as d p row x claim is);
    works = x.holds.works;
  };
}

module _ {D : Type 0} (d : Ghosts D) (p : StoreView D) (row : ℕ) (x : HoldsPosted d p row)
    (seventeen : length p.rows ≡ 17) (fill : FillStands (state_of d p)) where
  abbrev s : StoreState
  s = state_of d p

  abbrev claim : OpenClaim
  claim = x.holds.claim

  pub held : (rows_of p.rows row).claim ≡ Some claim
  held = ap (λ (r : Row). r.claim) x.holds.is

  row_few : row < 17
  row_few = work_low d p seventeen fill row x.holds.works

  pub low : row < length p.rows
  low = row_low d p seventeen row row_few

  abbrev is_copying : IsCopying s (Posted x.serial)
  is_copying = copying d p row (Posted x.serial) x.holds

  pub row_is : (given : Row) → given ≡ slice_index_or p.rows row given
      → given ≡ record { left = x.holds.left; stage = Posted x.serial; claim = Some claim }
  row_is given is = row_read p.rows row given low is ∙ x.holds.is

  -- ---- the claim is lost

  pub lost : p.stopped ≡ None → p.job ≡ None → ((meta : Meta) → CanInsert s claim meta → ⊥) → (q : StoreView D)
      → q ≡ row_given_back p row (Decided Lost) → TurnMade d p q kind.loses_insert
  lost runs no_job cannot q is = (
    record {
      serial = x.serial;
      posted = is_copying;
      runs = runs;
      no_job = no_job;
      cannot = cannot;
      next = ap (state_of d) is ∙ state_given_back d p row low (Decided Lost);
    },
    ap (λ (a : StoreView D). a.disk) is,
  )

  -- ---- the command that the row works for is logged

  module _ (runs : p.stopped ≡ None) (no_job : p.job ≡ None) (meta : Meta) (can : CanInsert s claim meta)
      (q : StoreView D) where
    pub lacks : LacksPages true (with_slot meta claim.slot claim.cluster) p.pages
        → IsGivenUp p q row (Decided Answered) r.NoPage (d.clock q.disk) → TurnMade d p q kind.lacks_for_insert
    lacks lacking given = (
      record {
        serial = x.serial;
        posted = is_copying;
        runs = runs;
        no_job = no_job;
        meta = meta;
        can = can;
        lacks = lacking;
        logs = work_logged d p seventeen fill q row (Decided Answered) r.NoPage row_few x.holds.works given;
      },
      work_disk d p seventeen fill q row (Decided Answered) r.NoPage row_few x.holds.works given,
    )

    pub lacks_memory : IsGivenUp p q row (Decided Answered) r.Memory (d.clock q.disk)
        → TurnMade d p q kind.lacks_memory_for_insert
    lacks_memory given = (
      record {
        serial = x.serial;
        posted = is_copying;
        runs = runs;
        no_job = no_job;
        meta = meta;
        can = can;
        logs = work_logged d p seventeen fill q row (Decided Answered) r.Memory row_few x.holds.works given;
      },
      work_disk d p seventeen fill q row (Decided Answered) r.Memory row_few x.holds.works given,
    )

    -- its metadata isn't prepared
    pub unprepared : (reply : Reply)
        → IsUnprepared false true (with_slot meta claim.slot claim.cluster) p.pages reply
        → IsGivenUp p q row (Decided Answered) reply (d.clock q.disk) → TurnsAs d IsLack p q
    unprepared r.NoPage lacking given =
        record { kind = kind.lacks_for_insert; is = tt; made = lacks lacking given }
    unprepared r.Memory lacking given =
        record { kind = kind.lacks_memory_for_insert; is = tt; made = lacks_memory given }
    unprepared r.Full lacking given = absurd (let bad = lacking.0 in cc bad)
    unprepared _ lacking given = absurd lacking

  -- ---- the job begins

  module _ (running : IsRunning s) (runs : p.stopped ≡ None) (no_job : p.job ≡ None) (clean : HasNoMarks s.base)
      (meta : Meta) (can : CanInsert s claim meta) where
    abbrev new : Meta
    new = with_slot meta claim.slot claim.cluster

    abbrev planned : Prepared → Planned
    planned y = planned_with y claim.head new no_effects

    abbrev in_job : Row
    in_job = record { left = x.holds.left; stage = InJob; claim = Some claim }

    pub begun : (y : Prepared) (after : List Bool)
        → IsPrepared p.chains claim.head new false p.pages after y → (given : Row) → given ≡ in_job
        → BeginsInsert s (state_of d (record p {
          rows = slice_set p.rows row given;
          pages = after;
          job = Some (marked p.clean (writing_for (whom.Insert row) (planned y) y.old 0 []));
        }))
    begun y after is given given_is =
        let known = ready s running runs row claim held meta can clean no_job p.chains after y is in
        let chain = has_chain s running runs row claim held meta can clean in
        record {
          serial = x.serial;
          posted = is_copying;
          runs = runs;
          no_job = no_job;
          repaired = clean;
          meta = meta;
          can = can;
          replacing = replacing_of (planned y) y.old;
          laid = record {
            head = refl;
            new = refl;
            chain = is.behind (ap is_some chain.1);
            unerased = λ bad. absurd (cc bad);
            planned = record {
              needs = known.needs;
              least = known.least;
              packed = known.packed;
              places = known.places;
              says = known.planned;
            };
            clusters = moves s running runs row claim held meta can clean;
          };
          next =
              ap (λ (g : Row). state_of d (record p {
                rows = slice_set p.rows row g;
                pages = after;
                job = Some (marked p.clean (writing_for (whom.Insert row) (planned y) y.old 0 []));
              })) given_is
              ∙ ap (λ (rows : Rows). record s {
                rows = rows;
                pages = after;
                job = Some (marked p.clean (writing_for (whom.Insert row) (planned y) y.old 0 []));
              }) (rows_set p.rows row in_job low)
              ∙ ap (λ (bits : List Bool). record s {
                rows = with_row s.rows row in_job;
                pages = bits;
                job = Some (marked p.clean (writing_for (whom.Insert row) (planned y) y.old 0 []));
              }) known.taken;
        }
