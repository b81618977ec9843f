-- Each kind of turn has its columns.
use Rattle.std.proofs.Common.{◌≡◌, ◌⊎◌, ℕ, suc, Bool, List, [], ◌∷◌, Some, None, refl, sym, ◌∙◌, ap, subst, inl, inr}
use Rattle.super_block.specs.Numbers.{cluster_pages_of}
use Rattle.volume_model.specs.declared.command.Command.{Command}
use Rattle.volume_model.specs.declared.reply.Reply.{Reply}
use Rattle.volume_model.specs.declared.reply.Reply.TheVariants as r
use Rattle.store_model.specs.Cases as kind
use Rattle.store_model.specs.Cases.{Kind, Turn}
use Rattle.store_model.specs.Cases.BreakDown.{IsUnlogged, WasLogged}
use Rattle.store_model.specs.Cases.CopyFail as tried
use Rattle.store_model.specs.Cases.CopyFail.{TriedCopy}
use Rattle.store_model.specs.Cases.Halt.{Halts, MayLog, stage_after}
use Rattle.store_model.specs.Cases.HaltFill.{HaltsFill}
use Rattle.store_model.specs.Claiming.{LogsWork, stage_behind}
use Rattle.store_model.specs.Device.{Device}
use Rattle.store_model.specs.Rows.{Answered, Claiming, Copying, Decided, Ended, fill_row, Idle, InJob, OpenClaim}
use Rattle.store_model.specs.Rows.{Posted, Ready}
use Rattle.store_model.specs.Rows.{Row, Stage, with_row}
use Rattle.store_model.specs.StoreState.{JobState, ForInsert, StoreState}
use Rattle.store_model.specs.Turning.{stopped_now}
use Rattle.store_model.proofs.RowsKept.{row_here}
use Rattle.turn_columns.specs.Columns.{asks, begins, begins_insert, breaks, claims, claims_fill, copies}
use Rattle.turn_columns.specs.Columns.{ends, ends_use, finds_empty, inserts, leaves}
use Rattle.turn_columns.specs.Columns.{loses_insert, MayBeLogged, Moved, moves, no_row, one_row, returns}
use Rattle.turn_columns.specs.Columns.{sends, stage_logged, starts, WaitsWithClaim}
use Rattle.turn_columns.specs.KindColumns.{broken, job_column, row_of}
use Rattle.turn_columns.proofs.OneRow.{alone, brought, dropped, fill_apart, fill_goes, job_on, job_one, logged, logs_at}
use Rattle.turn_columns.proofs.OneRow.{work_apart, work_goes, work_job}
use Rattle.turn_columns.proofs.OneRow.{work_super}

-- ---- stages

-- what a turn may log of a stopped store
record Loggable (stage : Stage) : Type 0 where
  may : MayBeLogged stage
  out : stage ≡ InJob → ⊥
  behind : stage_after stage ≡ stage_logged stage

loggable : (stage : Stage) → MayLog stage → Loggable stage
loggable Idle may = record { may = tt; out = λ bad. cc bad; behind = refl }
loggable Claiming may = record { may = tt; out = λ bad. cc bad; behind = refl }
loggable (Copying left) may = record { may = tt; out = λ bad. cc bad; behind = refl }
loggable Ready may = record { may = tt; out = λ bad. cc bad; behind = refl }
loggable (Posted serial) may = record { may = tt; out = λ bad. cc bad; behind = refl }
loggable InJob may = absurd may
loggable (Decided outcome) may = absurd may
loggable Ended may = absurd may

-- what was tried of a copy
record Tried (stage : Stage) : Type 0 where
  may : MayBeLogged stage
  out : stage ≡ InJob → ⊥
  idle : stage_logged stage ≡ Idle

tried_at : (p : StoreState) (claim : OpenClaim) (stage : Stage) → TriedCopy p claim stage → Tried stage
tried_at p claim stage (tried.copy left page content is current next) =
    subst Tried (sym is) (record { may = tt; out = λ bad. cc bad; idle = refl })
tried_at p claim stage (tried.flush is) =
    subst Tried (sym is) (record { may = tt; out = λ bad. cc bad; idle = refl })

-- ---- kinds

module _ (p q : StoreState) where
  abbrev pages : ℕ
  pages = cluster_pages_of p.super

  halted : (t : Halts p q) → Moved leaves (Some t.channel) p q
  halted t = let ok = loggable t.stage t.may in
      subst (Moved leaves (Some t.channel) p) (sym t.next) (logged p _ refl t.channel t.command t.rest t.stage t.claim
      t.row ok.may ok.out refl
      (ap (λ (s : Stage). with_row p.rows t.channel (record { left = t.rest; stage = s; claim = None })) ok.behind))

  -- a row that copies gives up
  gave_up : (mid : StoreState) → mid.rows ≡ p.rows → mid.super ≡ p.super → mid.job ≡ p.job → (row : ℕ) (stage : Stage)
      → (p.rows row).stage ≡ stage → MayBeLogged stage → (stage ≡ InJob → ⊥) → {reply : Reply} → {device : Device}
      → LogsWork mid row (stage_logged stage) reply device q → Moved leaves (Some row) p q
  gave_up mid same super job row stage at may out work = record {
    super = work_super p mid q same pages row stage at may _ _ work ∙ super;
    rows = work_goes p mid q same pages row stage at may _ _ work;
    jobs = record {
      same = work_job p mid q same pages row stage at may _ _ work ∙ job;
      apart = work_apart p mid q same pages row stage at may out _ _ work;
    };
  }

  -- a row whose insert's job ends
  broke : (mid : StoreState) → mid.rows ≡ p.rows → mid.super ≡ p.super → mid.job ≡ None → (row : ℕ)
      → (p.rows row).stage ≡ InJob → {reply : Reply} → {device : Device}
      → LogsWork mid row (Decided Answered) reply device q → Moved breaks (Some row) p q
  broke mid same super none row at work = record {
    super = work_super p mid q same pages row InJob at tt _ _ work ∙ super;
    rows = work_goes p mid q same pages row InJob at tt _ _ work;
    jobs = work_job p mid q same pages row InJob at tt _ _ work ∙ none;
  }

  -- the command of a job is logged, which ends
  failed_at : (v : StoreState) → v.super ≡ p.super → v.job ≡ None → (row : ℕ) (command : Command) (rest : List Command)
      → p.rows row ≡ record { left = command ∷ rest; stage = InJob; claim = None }
      → v.rows ≡ with_row p.rows row (record { left = rest; stage = Decided Answered; claim = None })
      → Moved breaks (Some row) p v
  failed_at v super none row command rest is rows = record {
    super = super;
    rows = logs_at p v row command rest InJob None is tt rows;
    jobs = none;
  }

  broken_down : (j : JobState) (at : ℕ) (ends : IsUnlogged p j at q ⊎ WasLogged p j q)
      → Moved breaks (broken p j at q ends) p q
  broken_down j at (inl x) = let y = x.served in
      subst (Moved breaks (Some y.channel) p) (sym x.next) (failed_at _ refl refl y.channel y.command y.rest y.row refl)
  broken_down j at (inr x) = subst (Moved breaks None p) (sym x.next) (dropped p _ refl refl refl)

  halted_fill : HaltsFill p q → Moved leaves (Some fill_row) p q
  halted_fill t =
      let x = t.posted in
      let at : Stage = (p.rows fill_row).stage in
      let ok = loggable at t.may in
      let rows : q.rows ≡ with_row
      (with_row p.rows fill_row (record { left = (p.rows fill_row).left; stage = stage_logged at; claim = None }))
      x.channel (record { left = x.rest; stage = Decided Answered; claim = None }) =
      ap (λ (v : StoreState). v.rows) t.next
      ∙ ap (λ (s : Stage). with_row
      (with_row p.rows fill_row (record { left = (p.rows fill_row).left; stage = s; claim = None })) x.channel
      (record { left = x.rest; stage = Decided Answered; claim = None })) ok.behind in
      record {
        super = ap (λ (v : StoreState). v.super) t.next;
        rows = fill_goes pages p.rows q.rows fill_row x.channel x.serial x.command x.rest at refl ok.may x.row rows
            refl;
        jobs = record {
          same = ap (λ (v : StoreState). v.job) t.next;
          apart = fill_apart pages p.rows q.rows fill_row x.channel x.serial x.command x.rest at refl ok.may x.row rows
              ok.out;
        };
      }

  -- ---- each kind

  pub moved : (told : Bool) (k : Kind) (t : Turn told p k q) → Moved (job_column k) (row_of told p q k t) p q
  moved told kind.posts t = subst (Moved leaves (Some t.channel) p) (sym t.next)
      (alone p _ refl t.channel _ _ refl t.row (λ e. cc e) (asks t.command t.rest p.serial t.is_meta t.row refl) refl)
  moved told kind.answers t = let x = t.posted in subst (Moved leaves (Some t.posted.channel) p) (sym t.next)
      (logged p _ refl x.channel x.command x.rest (Posted x.serial) None x.row tt (λ e. cc e) refl refl)
  moved told kind.refuses t = let x = t.posted in subst (Moved leaves (Some t.posted.channel) p) (sym t.next)
      (logged p _ refl x.channel x.command x.rest (Posted x.serial) None x.row tt (λ e. cc e) refl refl)
  moved told kind.halts t = halted t
  moved told kind.settles t = subst (Moved leaves (Some t.channel) p) (sym t.next)
      (alone p _ refl t.channel _ _ refl refl (λ e. let bad = sym t.decided ∙ e in cc bad)
      (returns (Decided t.outcome) t.decided tt refl) refl)
  moved told kind.ends t = subst (Moved leaves (Some t.channel) p) (sym t.next)
      (alone p _ refl t.channel _ _ refl t.over (λ e. cc e) (ends t.over refl) refl)
  moved told kind.begins t = let x = t.posted in
      let given : Row = record { left = x.command ∷ x.rest; stage = InJob; claim = None } in
      subst (Moved starts (Some t.posted.channel) p) (sym t.next)
      (record {
        super = refl;
        rows = one_row x.channel given refl (begins x.command x.rest x.serial x.row refl) refl;
        jobs = record {
          job = _;
          none = t.no_job;
          is = refl;
          begun = ap (λ (r : Row). r.stage) (row_here p.rows x.channel given x.channel refl);
        };
      })
  moved told kind.marks_dirty t = subst (Moved moves None p) (sym t.next)
      (job_one p _ refl t.running.job _ t.running.is refl refl refl)
  moved told kind.zeroes t = subst (Moved moves None p) (sym t.next)
      (job_one p _ refl t.running.job _ t.running.is refl refl refl)
  moved told kind.writes t = subst (Moved moves None p) (sym t.next)
      (job_one p _ refl t.running.job _ t.running.is refl refl refl)
  moved told kind.erases t = subst (Moved moves None p) (sym t.next)
      (job_one p _ refl t.running.job _ t.running.is refl refl refl)
  moved told kind.commits t = let x = t.served in record {
    super = ap (λ (v : StoreState). v.super) t.next;
    rows = logs_at p q x.channel x.command x.rest InJob None x.row tt (ap (λ (v : StoreState). v.rows) t.next);
    jobs = brought p q t.running.job (record t.running.job { claimed = [] }) t.running.rest t.running.is refl
        (ap (λ (v : StoreState). v.job) t.next)
        (λ row serves y ys is at. let bad = sym x.serves ∙ serves in absurd (cc bad));
  }
  moved told kind.frees t = subst (Moved moves None p) (sym t.next)
      (job_on p _ refl t.running.job t.running.job t.running.rest t.running.is refl refl refl)
  moved told kind.fails t = let x = t.served in subst (Moved breaks (Some t.served.channel) p) (sym t.next)
      (failed_at _ refl refl x.channel x.command x.rest x.row refl)
  moved told kind.more_fails t = let x = t.served in subst (Moved breaks (Some t.served.channel) p) (sym t.next)
      (failed_at _ refl refl x.channel x.command x.rest x.row refl)
  moved told kind.breaks_off t = subst (Moved breaks None p) (sym t.next)
      (dropped p _ refl refl refl)
  moved told kind.more_breaks_off t = subst (Moved breaks None p) (sym t.next)
      (dropped p _ refl refl refl)
  moved told kind.breaks_down t = broken_down t.job t.at t.ends
  moved told kind.begins_repair t = subst (Moved starts None p) (sym t.next)
      (record {
        super = refl;
        rows = no_row refl;
        jobs = record { job = _; none = t.no_job; is = refl; begun = tt };
      })
  moved told kind.replaces_more t = subst (Moved moves None p) (sym t.next)
      (job_on p _ refl t.running.job (record t.running.job { claimed = [] }) t.running.rest t.running.is refl
      refl refl)
  moved told kind.flushes t = subst (Moved leaves (Some t.channel) p) (sym t.next)
      (logged p _ refl t.channel _ t.rest Idle None t.row tt (λ e. cc e) refl refl)
  moved told kind.flush_fails t = subst (Moved leaves (Some t.channel) p) (sym t.next)
      (logged p _ refl t.channel _ t.rest Idle None t.row tt (λ e. cc e) refl refl)
  moved told kind.reads t = subst (Moved leaves (Some t.channel) p) (sym t.next)
      (logged p _ refl t.channel _ t.rest Idle None t.row tt (λ e. cc e) refl refl)
  moved told kind.refuses_write t = subst (Moved leaves (Some t.channel) p) (sym t.next)
      (logged p _ refl t.channel _ t.rest Idle None t.row tt (λ e. cc e) refl refl)
  moved told kind.writes_page t = subst (Moved leaves (Some t.at.channel) p) (sym t.next)
      (logged p _ refl t.at.channel _ t.at.rest Idle None t.at.row tt (λ e. cc e) refl refl)
  moved told kind.fails_to_write t = subst (Moved leaves (Some t.at.channel) p) (sym t.next)
      (logged p _ refl t.at.channel _ t.at.rest Idle None t.at.row tt (λ e. cc e) refl refl)
  moved told kind.finds_empty t = let w = t.write in subst (Moved leaves (Some t.write.channel) p) (sym t.next)
      (alone p _ refl w.channel _ _ refl w.row (λ e. cc e)
      (finds_empty _ (record { volume = w.volume; page = w.page; word = w.word; rest = w.rest; is = refl }) w.row refl)
      refl)
  moved told kind.finds_filled t = let w = t.write in subst (Moved leaves (Some t.write.channel) p) (sym t.next)
      (alone p _ refl w.channel _ _ refl w.row (λ e. cc e)
      (returns Claiming (ap (λ (r : Row). r.stage) w.row) tt
      (ap (λ (r : Row). record { left = r.left; stage = Idle; claim = None }) (sym w.row))) refl)
  moved told kind.claims t = let w = t.write in subst (Moved leaves (Some t.write.channel) p) (sym t.next)
      (alone p _ refl w.channel _ _ refl w.row (λ e. cc e)
      (claims _ _ (record { volume = w.volume; page = w.page; word = w.word; rest = w.rest; is = refl }) w.row refl)
      refl)
  moved told kind.refuses_claim t = let w = t.write in subst (Moved leaves (Some t.write.channel) p) (sym t.next)
      (logged p _ refl w.channel _ w.rest Claiming None w.row tt (λ e. cc e) refl refl)
  moved told kind.copies t = let x = t.copying in subst (Moved leaves (Some t.copying.row) p) (sym t.next)
      (alone p _ refl x.row _ _ refl x.is (λ e. cc e)
      (copies x.left x.claim t.left x.is refl) refl)
  moved told kind.loses_copy t = let x = t.copying in subst (Moved leaves (Some t.copying.row) p) (sym t.next)
      (alone p _ refl x.row _ _ refl x.is (λ e. cc e)
      (returns (Copying (suc t.left)) (ap (λ (r : Row). r.stage) x.is) tt refl) refl)
  moved told kind.copy_not_read t = let x = t.copying in gave_up p refl refl refl x.row (Copying (suc t.left))
      (ap (λ (r : Row). r.stage) x.is) tt (λ e. cc e) t.logs
  moved told kind.copy_fails t = let x = t.copying in let ok = tried_at p x.claim t.stage t.tried in
      gave_up (stopped_now p) refl refl refl x.row t.stage (ap (λ (r : Row). r.stage) x.is) ok.may ok.out
      (subst (λ (s : Stage). LogsWork (stopped_now p) x.row s r.Fault t.device q) (sym ok.idle) t.logs)
  moved told kind.sends t = let x = t.copying in subst (Moved leaves (Some t.copying.row) p) (sym t.next)
      (alone p _ refl x.row _ _ refl x.is (λ e. cc e)
      (sends x.left x.claim p.serial x.is refl) refl)
  moved told kind.loses_insert t = let x = t.posted in subst (Moved leaves (Some t.posted.row) p) (sym t.next)
      (alone p _ refl x.row _ _ refl x.is (λ e. cc e)
      (loses_insert t.serial (ap (λ (r : Row). r.stage) x.is) refl) refl)
  moved told kind.lacks_for_insert t = let x = t.posted in gave_up p refl refl refl x.row (Posted t.serial)
      (ap (λ (r : Row). r.stage) x.is) tt (λ e. cc e) t.logs
  moved told kind.lacks_memory_for_insert t = let x = t.posted in gave_up p refl refl refl x.row (Posted t.serial)
      (ap (λ (r : Row). r.stage) x.is) tt (λ e. cc e) t.logs
  moved told kind.begins_insert t = let x = t.posted in
      let given : Row = record { left = x.left; stage = InJob; claim = Some x.claim } in
      subst (Moved starts (Some t.posted.row) p) (sym t.next)
      (record {
        super = refl;
        rows = one_row x.row given refl (begins_insert x.left x.claim t.serial x.is refl) refl;
        jobs = record {
          job = _;
          none = t.no_job;
          is = refl;
          begun = subst WaitsWithClaim (sym (row_here p.rows x.row given x.row refl))
              (record { stage = refl; claim = x.claim; holds = refl });
        };
      })
  moved told kind.inserts t = let x = t.inserting in subst (Moved moves (Some t.inserting.row) p) (sym t.next)
      (record {
        super = refl;
        rows = one_row x.row _ refl (inserts t.running.rest x.waits refl) refl;
        jobs = brought p _ t.running.job t.running.job t.running.rest t.running.is refl refl (λ row serves y ys is at.
            let both : ForInsert x.row ≡ ForInsert row = sym x.serves ∙ serves in
            let e : row ≡ x.row = let f : x.row ≡ row = cc both in sym f in
            ap (λ (r : Row). r.stage) (row_here p.rows x.row _ row e) ∙ ap stage_behind is);
      })
  moved told kind.insert_ends t = let x = t.inserting in subst (Moved breaks (Some t.inserting.row) p) (sym t.next)
      (record {
        super = refl;
        rows = one_row x.row _ refl (inserts [] x.waits refl) refl;
        jobs = refl;
      })
  moved told kind.insert_fails t =
      broke (record (stopped_now p) { job = None }) refl refl refl t.inserting.row t.inserting.waits t.logs
  moved told kind.insert_breaks_down t =
      broke (record p { job = None }) refl refl refl t.inserting.row t.inserting.waits t.logs
  moved told kind.claims_fill t = subst (Moved leaves (Some fill_row) p) (sym t.next)
      (alone p _ refl fill_row _ _ refl t.fill.unused (λ e. cc e) (claims_fill refl _ t.fill.unused refl) refl)
  moved told kind.lacks_for_fill t = let x = t.fill.posted in
      subst (Moved leaves (Some t.fill.posted.channel) p) (sym t.next)
      (logged p _ refl x.channel x.command x.rest (Posted x.serial) None x.row tt (λ e. cc e) refl refl)
  moved told kind.halts_fill t = halted_fill t
  moved told kind.ends_fill t = subst (Moved breaks (Some fill_row) p) (sym t.next)
      (record { super = refl; rows = one_row fill_row _ refl (ends_use refl refl) refl; jobs = t.no_job })
