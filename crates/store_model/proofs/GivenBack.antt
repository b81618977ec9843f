-- A row gives its claim back, and the command that it worked for is logged.
use Rattle.std.proofs.Common.{◌≡◌, ◌⊎◌, Option, ℕ, ◌≤◌, List, ◌∷◌, length, None, refl, sym, ap, ◌∙◌, subst}
use Rattle.std.proofs.Common.{arith, inl, inr}
use Rattle.std.proofs.lemmas.Bool.{cases_eq}
use Rattle.volume_model.specs.Volumes.{Fixed, Volumes}
use Rattle.volume_model.specs.Steps.{Allowed, HasPassed, IsRefusal, MayFail, MayLackMemory, MayLackPages, MayMissRead}
use Rattle.volume_model.specs.Logs.{replay}
use Rattle.volume_model.specs.declared.command.Command.{Command}
use Rattle.volume_model.specs.declared.command.Command.TheVariants as c
use Rattle.volume_model.specs.declared.command.VolumeRef.{VolumeRef}
use Rattle.volume_model.specs.declared.reply.Reply.{Reply}
use Rattle.volume_model.specs.declared.reply.Reply.TheVariants as r
use Rattle.inflate_delete.specs.Fills.{command_of}
use Rattle.inflate_delete.specs.declared.filling.FillKind.{FillKind}
use Rattle.inflate_delete.specs.declared.filling.FillKind.TheVariants.{Decouple, Inflate}
use Rattle.store_model.specs.Claiming.{given_back, logs_filled, logs_own, LogsWork}
use Rattle.store_model.specs.Device.{Device}
use Rattle.store_model.specs.Filling.{AsksForFill}
use Rattle.store_model.specs.Places.{without_claim}
use Rattle.store_model.specs.Rows.{Answered, Decided, InJob, Row, Stage, with_row}
use Rattle.store_model.specs.Seen.{seen}
use Rattle.store_model.specs.Shown.{fixed_of}
use Rattle.store_model.specs.StoreState.{logged_to, shown, StoreState}
use Rattle.store_model.specs.Turning.{IsPosted, stopped_now}
use Rattle.store_model.specs.RunInvariant.{RunInvariant}
use Rattle.store_model.proofs.ClaimSets.{held_without}
use Rattle.store_model.proofs.DeviceKept.{filling_facts}
use Rattle.store_model.proofs.Guarding.{none_guarded}
use Rattle.store_model.proofs.FactsKept.{facts_kept, log_stays}
use Rattle.store_model.proofs.Known.{Known}
use Rattle.store_model.proofs.Refusals.{RefusalsChangeNothing}
use Rattle.store_model.proofs.RowsKept.{row_here, row_other}
use Rattle.store_model.proofs.Seen.{refusal_seen}
use Rattle.store_model.proofs.Shaped.{decided_may, MayBe, shaped_still}
use Rattle.store_model.proofs.StateKept.{claim_facts, held_here, logged_facts, refused_same}

-- ---- the entry

-- the commands that go on over several turns
abbrev pub IsLong : Command → Type 0
IsLong (c.Write volume page word) = Unit {0}
IsLong (c.Inflate volume) = Unit {0}
IsLong (c.Decouple volume) = Unit {0}
IsLong _ = ⊥

fill_of : (kind : FillKind) (volume : VolumeRef) → IsLong (command_of kind volume)
fill_of Inflate volume = tt
fill_of Decouple volume = tt

pub fill_is_long : (command : Command) → AsksForFill command → IsLong command
fill_is_long command asks = subst IsLong (sym asks.is) (fill_of asks.kind asks.volume)

-- the replies with which such a command ends whatever holds in the volumes
abbrev pub EndsWork : Reply → Type 0
EndsWork r.NoPage = Unit {0}
EndsWork r.Memory = Unit {0}
EndsWork r.ReadFault = Unit {0}
EndsWork r.Fault = Unit {0}
EndsWork (r.Stopped at) = Unit {0}
EndsWork _ = ⊥

pub ends_refusal : (reply : Reply) → EndsWork reply → IsRefusal reply
ends_refusal r.NoPage ends = tt
ends_refusal r.Memory ends = tt
ends_refusal r.ReadFault ends = tt
ends_refusal r.Fault ends = tt
ends_refusal (r.Stopped at) ends = tt
ends_refusal _ ends = absurd ends

module _ (f : Fixed) (v : Volumes) where
  -- what it may meet
  record Meets (command : Command) : Type 0 where
    passed : HasPassed f v command
    pages : MayLackPages f v command
    reads : MayMissRead f v command
    writes : MayFail f v command
    memory : MayLackMemory f v command

  meets : (command : Command) → IsLong command → Meets command
  meets (c.Write volume page word) long = record { passed = tt; pages = tt; reads = tt; writes = tt; memory = tt }
  meets (c.Inflate volume) long = record { passed = tt; pages = tt; reads = tt; writes = tt; memory = tt }
  meets (c.Decouple volume) long = record { passed = tt; pages = tt; reads = tt; writes = tt; memory = tt }
  meets _ long = absurd long

  ends_so : (command : Command) → IsLong command → (reply : Reply) → EndsWork reply → Allowed f v command reply
  ends_so command long r.NoPage ends = let m = meets command long in (m.passed, m.pages)
  ends_so command long r.Memory ends = (meets command long).memory
  ends_so command long r.ReadFault ends = let m = meets command long in (m.passed, m.reads)
  ends_so command long r.Fault ends = (meets command long).writes
  ends_so command long (r.Stopped at) ends = tt
  ends_so command long _ ends = absurd ends

-- what a row may be at a stage that holds no claim
abbrev pub MayStand : Stage → Type 0
MayStand stage = (q : StoreState) (channel : ℕ) (left : List Command)
    → MayBe q channel (record { left = left; stage = stage; claim = None })

-- The entry that a row's turn logs, whoever it works for: itself, or another row, which is posted.
pub record IsLogged (p : StoreState) (row : ℕ) (stage : Stage) (reply : Reply) (d : Device)
    (q : StoreState) : Type 0 where
  pub channel : ℕ
  pub command : Command
  pub rest : List Command
  pub long : IsLong command
  pub left : (p.rows channel).left ≡ command ∷ rest
  pub whose : (channel ≡ row) ⊎ (((p.rows channel).stage ≡ InJob → ⊥) × ((p.rows channel).claim ≡ None))
  pub after : Stage
  pub may : MayStand stage → MayStand after
  pub filling : Option ℕ
  pub next : q ≡ logged_to after (record (given_back p row stage) { filling = filling }) channel command rest reply d

-- what is posted is logged, and the fill's row works for no command any more
pub logs_posted : {p : StoreState} → {row : ℕ} → {stage : Stage} → {reply : Reply} → {d : Device} → {q : StoreState}
    → (posted : IsPosted p) → AsksForFill posted.command
    → q ≡ logged_to (Decided Answered) (record (given_back p row stage) { filling = None }) posted.channel
    posted.command posted.rest reply d → IsLogged p row stage reply d q
logs_posted posted asks next = record {
  channel = posted.channel;
  command = posted.command;
  rest = posted.rest;
  long = fill_is_long posted.command asks;
  left = ap (λ (x : Row). x.left) posted.row;
  whose = inr (
    (λ in_job. let bad = sym (ap (λ (x : Row). x.stage) posted.row) ∙ in_job in cc bad),
    ap (λ (x : Row). x.claim) posted.row,
  );
  after = Decided Answered;
  may = λ stands. decided_may;
  filling = None;
  next = next;
}

pub logged_work : {p : StoreState} → {row : ℕ} → {stage : Stage} → {reply : Reply} → {d : Device} → {q : StoreState}
    → LogsWork p row stage reply d q → IsLogged p row stage reply d q
logged_work {p = p} {row = row} {stage = stage} (logs_own t) = record {
  channel = row;
  command = c.Write t.volume t.page t.word;
  rest = t.rest;
  long = tt;
  left = t.left;
  whose = inl refl;
  after = stage;
  may = λ stands. stands;
  filling = p.filling;
  next = t.next;
}
logged_work (logs_filled t) = logs_posted t.posted t.asks t.next

-- the device that a store has before doesn't matter
pub logged_from : {p : StoreState} → {row : ℕ} → {stage : Stage} → {reply : Reply} → {d : Device} → {q : StoreState}
    → (old : Device) → IsLogged p row stage reply d q → IsLogged (record p { device = old }) row stage reply d q
logged_from old t = record {
  channel = t.channel;
  command = t.command;
  rest = t.rest;
  long = t.long;
  left = t.left;
  whose = t.whose;
  after = t.after;
  may = t.may;
  filling = t.filling;
  next = t.next;
}

-- ---- it keeps what every state has

module _ (known : Known) where
  open known use {s, placed, first, script, p, facts}

  -- a row goes on without its claim
  pub given_back_facts : (row : ℕ) (stage : Stage) → MayStand stage → ((p.rows row).stage ≡ InJob → ⊥)
      → RunInvariant s first script (given_back p row stage)
  given_back_facts row stage may free =
      let next : Row = record { left = (p.rows row).left; stage = stage; claim = None } in
      claim_facts known row next (without_claim p.clusters (p.rows row).claim) p.serial refl free
      (λ runs. held_without p row next (held_here known (facts.well runs)) refl)
      (may _ row (p.rows row).left)

  -- a write or a flush failed, and the store stops
  pub stopped_facts : (d : Device) → p.device.clock ≤ d.clock
      → RunInvariant s first script (record (stopped_now p) { device = d })
  stopped_facts d later =
      let now : StoreState = record (stopped_now p) { device = d } in
      facts_kept known now refl refl (record {
        logs = log_stays known now refl refl refl (λ c. refl) later;
        well = λ runs. absurd (cc runs);
        shaped = shaped_still p now facts.shaped refl refl;
        guarded = none_guarded now (λ head. refl);
        halted = λ at is. let e : length p.log ≡ at = cc is in omega (arith, e);
        unfinished = facts.unfinished;
      })

-- a row whose first command is logged
record IsToLog (row : Row) (command : Command) (rest : List Command) : Type 0 where
  free : row.stage ≡ InJob → ⊥
  unclaimed : row.claim ≡ None
  left : row.left ≡ command ∷ rest

module _ (quiet : RefusalsChangeNothing) (known : Known) (p : StoreState) (row : ℕ) (stage : Stage)
    (may : MayStand stage) (out : stage ≡ InJob → ⊥)
    (back : RunInvariant known.s known.first known.script (given_back p row stage)) where
  open known use {s, first, script}

  -- the row as it goes on
  abbrev now : Row
  now = record { left = (p.rows row).left; stage = stage; claim = None }

  to_log : (reply : Reply) (d : Device) (q : StoreState) (t : IsLogged p row stage reply d q)
      → IsToLog (with_row p.rows row now t.channel) t.command t.rest
  to_log reply d q t = elim (cases_eq t.channel row) [
    | inl e ↦ subst (λ (x : Row). IsToLog x t.command t.rest) (sym (row_here p.rows row now t.channel e))
        (record { free = out; unclaimed = refl; left = ap (λ k. (p.rows k).left) (sym e) ∙ t.left })
    | inr ne ↦ subst (λ (x : Row). IsToLog x t.command t.rest) (sym (row_other p.rows row now t.channel ne))
        (elim t.whose [
          | inl same ↦ absurd (ne same)
          | inr other ↦ record { free = other.0; unclaimed = other.1; left = t.left }
        ])
  ]

  -- the row has given its claim back, and the command that it worked for is logged
  pub logged_behind : (reply : Reply) (q : StoreState) → IsLogged p row stage reply p.device q → EndsWork reply
      → RunInvariant s first script q
  logged_behind reply q t ends =
      let given : Known = record known { p = given_back p row stage; facts = back } in
      let there : Known = record given {
        p = record (given_back p row stage) { filling = t.filling };
        facts = filling_facts given t.filling;
      } in
      let x = to_log reply p.device q t in
      let is = ends_refusal reply ends in
      subst (RunInvariant s first script) (sym t.next)
      (logged_facts there t.after (t.may may) t.channel t.command t.rest reply x.free (λ runs. x.unclaimed) x.left
      (subst (Allowed (fixed_of s) (replay (fixed_of s) first (seen p.tells p.log)) t.command)
      (sym (refusal_seen p.tells reply is))
      (ends_so (fixed_of s) (replay (fixed_of s) first (seen p.tells p.log)) t.command t.long reply ends))
      (λ runs. refused_same there quiet t.command reply is
      (ends_so (fixed_of p.super) (shown there.p) t.command t.long reply ends)))

-- the same of a row that isn't in a job
pub logged_work_facts : RefusalsChangeNothing → (known : Known) (row : ℕ) (stage : Stage) → MayStand stage
    → (stage ≡ InJob → ⊥) → ((known.p.rows row).stage ≡ InJob → ⊥) → (reply : Reply) (q : StoreState)
    → IsLogged known.p row stage reply known.p.device q → EndsWork reply
    → RunInvariant known.s known.first known.script q
logged_work_facts quiet known row stage may out free reply q t ends =
    logged_behind quiet known known.p row stage may out (given_back_facts known row stage may free) reply q t ends
