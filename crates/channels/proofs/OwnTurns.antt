-- The turns that a channel makes, as turns of that channel: the other rows stay, so that its own is the one that
-- changes.
use Rattle.std.proofs.Common.{◌≡◌, inl, inr, ℕ, zero, suc, true, List, ◌∷◌, None, refl}
use Rattle.std.proofs.Common.{length, sym, ◌∙◌, ap, subst, arith}
use Rattle.std.proofs.lemmas.Bool.{cases_eq, false≢true}
use Rattle.page_disk.specs.declared.disk.PageDisk.{Ghosts}
use Rattle.volume_model.specs.declared.command.Command.{Command}
use Rattle.volume_model.specs.declared.reply.Msg.{Msg}
use Rattle.volume_model.specs.declared.reply.Reply.{Reply}
use Rattle.store_model.specs.Cases as kind
use Rattle.store_model.specs.Cases.{Kind}
use Rattle.store_model.specs.Cases.Copy.{stage_left}
use Rattle.store_model.specs.Cases.CopyFail.{copy, flush, TriedCopy}
use Rattle.store_model.specs.Claiming.{given_back, logs_filled, logs_own, LogsWork}
use Rattle.store_model.specs.Device.{Device}
use Rattle.store_model.specs.Rows.{Claiming, Copying, Decided, fill_row, Idle, OpenClaim, Posted, Ready, Row, Rows}
use Rattle.store_model.specs.Rows.{Stage}
use Rattle.store_model.specs.Rows.{with_row}
use Rattle.store_model.specs.StoreState.{StoreState}
use Rattle.store_model.specs.Turning.{stopped_now}
use Rattle.store_model.proofs.RowsKept.{row_here, row_other}
use Rattle.channel_turns.specs.ChannelTurns.{IsOfFlush, IsOfRead, IsOfWrite}
use Rattle.channel_turns.specs.ClaimTurns.{IsOfClaim, IsOfCopy, IsOfSend}
use Rattle.running_store.specs.TurnMade.{TurnMade, TurnsAs}
use Rattle.running_store.specs.StoreView.{rows_of, state_of, StoreView}
use Rattle.running_store.specs.declared.rows.RowStage.{RowStage}
use Rattle.running_store.specs.declared.rows.RowStage.TheVariants as waits
use Rattle.thin_write.specs.Turns.{GoesOn, LogsWrite, OthersStay, PostsInsert}
use Rattle.run_work.specs.ChannelMoves.{logs_itself}
use Rattle.run_moves.specs.Projection.{stage_in_run}
use Rattle.run_moves.specs.DriverSteps.{ChannelTurn}
use Rattle.run_moves.specs.DriverSteps as turns
use Rattle.channels.specs.ChannelSteps.{PostsRow}

longer : (command : Command) (rest : List Command) → (command ∷ rest) ≡ rest → ⊥
longer command rest e =
    let n : suc (length rest) ≡ length rest = ap (λ (l : List Command). length l) e in omega (arith, n)

-- the kinds of turns that log, or go on with a write
abbrev pub IsOwn : Kind → Type 0
IsOwn kind.reads = Unit {0}
IsOwn kind.refuses_write = Unit {0}
IsOwn kind.writes_page = Unit {0}
IsOwn kind.fails_to_write = Unit {0}
IsOwn kind.finds_empty = Unit {0}
IsOwn kind.finds_filled = Unit {0}
IsOwn kind.claims = Unit {0}
IsOwn kind.refuses_claim = Unit {0}
IsOwn kind.copies = Unit {0}
IsOwn kind.loses_copy = Unit {0}
IsOwn kind.copy_not_read = Unit {0}
IsOwn kind.copy_fails = Unit {0}
IsOwn kind.flushes = Unit {0}
IsOwn kind.flush_fails = Unit {0}
IsOwn kind.halts = Unit {0}
IsOwn kind.halts_fill = Unit {0}
IsOwn _ = ⊥

read_own : (k : Kind) → IsOfRead k → IsOwn k
read_own kind.reads is = tt
read_own kind.halts is = tt
read_own _ is = absurd is

flush_own : (k : Kind) → IsOfFlush k → IsOwn k
flush_own kind.flushes is = tt
flush_own kind.flush_fails is = tt
flush_own kind.halts is = tt
flush_own _ is = absurd is

write_own : (k : Kind) → IsOfWrite k → IsOwn k
write_own kind.refuses_write is = tt
write_own kind.writes_page is = tt
write_own kind.fails_to_write is = tt
write_own kind.halts is = tt
write_own _ is = absurd is

claim_own : (k : Kind) → IsOfClaim k → IsOwn k
claim_own kind.refuses_claim is = tt
claim_own kind.halts is = tt
claim_own _ is = absurd is

copy_own : (k : Kind) → IsOfCopy k → IsOwn k
copy_own kind.copy_not_read is = tt
copy_own kind.copy_fails is = tt
copy_own kind.halts is = tt
copy_own kind.halts_fill is = tt
copy_own _ is = absurd is

send_own : (k : Kind) → IsOfSend k → IsOwn k
send_own kind.copy_fails is = tt
send_own kind.halts is = tt
send_own kind.halts_fill is = tt
send_own _ is = absurd is

-- a page that is copied leaves another stage
copied : (n : ℕ) → Copying (suc n) ≡ stage_left n → ⊥
copied zero e = cc e
copied (suc n) e = let m : suc (suc n) ≡ suc n = ap count e in omega (arith, m)
  where
    count : Stage → ℕ
    count (Copying left) = left
    count _ = 0

module _ {D : Type 0} (d : Ghosts D) (p q : StoreView D) (channel : ℕ)
    (others : OthersStay p.rows q.rows channel) where
  -- a row that changes is the channel's
  its_own : (k : ℕ) (now : Row) → rows_of q.rows k ≡ now → (rows_of p.rows k ≡ now → ⊥) → k ≡ channel
  its_own k now is differs = elim (cases_eq k channel) [
    | inl e ↦ e
    | inr ne ↦ absurd (differs (sym (others k ne) ∙ is))
  ]

  here : (next : StoreState) → state_of d q ≡ next → (k : ℕ) (rows : Rows) (now : Row) → next.rows ≡ with_row rows k now
      → rows_of q.rows k ≡ now
  here next is k rows now at =
      ap (λ (s : StoreState). s.rows k) is ∙ ap (λ (r : Rows). r k) at ∙ row_here rows k now k refl

  -- one that is logged
  logs : (next : StoreState) → state_of d q ≡ next → (k : ℕ) (rows : Rows) (command : Command) (rest : List Command)
      (stage : Stage) → next.rows ≡ with_row rows k (record { left = rest; stage = stage; claim = None })
      → (rows_of p.rows k).left ≡ command ∷ rest → k ≡ channel
  logs next is k rows command rest stage at left =
      let now : Row = record { left = rest; stage = stage; claim = None } in
      its_own k now (here next is k rows now at)
      (λ e. longer command rest (sym left ∙ ap (λ (r : Row). r.left) e))

  -- one that comes to another stage
  goes : (next : StoreState) → state_of d q ≡ next → (k : ℕ) (now : Row) → next.rows ≡ with_row (rows_of p.rows) k now
      → (stage : Stage) → (rows_of p.rows k).stage ≡ stage → (stage ≡ now.stage → ⊥) → k ≡ channel
  goes next is k now at stage was differs =
      its_own k now (here next is k (rows_of p.rows) now at)
      (λ e. differs (sym was ∙ ap (λ (r : Row). r.stage) e))

  -- one that gives its claim back, whoever's command is logged
  stops : (mid : StoreState) → mid.rows ≡ rows_of p.rows → (row : ℕ) (stage : Stage)
      → (rows_of p.rows row).stage ≡ stage → (stage ≡ Idle → ⊥) → ((serial : ℕ) → stage ≡ Posted serial → ⊥)
      → (reply : Reply) (device : Device) → LogsWork mid row Idle reply device (state_of d q) → row ≡ channel
  stops mid rows row stage at waits unposted reply device work = its_own row (rows_of q.rows row) refl (λ e.
      waits (sym at ∙ ap (λ (r : Row). r.stage) e ∙ idle work))
    where
      idle : LogsWork mid row Idle reply device (state_of d q) → (rows_of q.rows row).stage ≡ Idle
      idle (logs_own x) = ap (λ (r : Row). r.stage) (ap (λ (s : StoreState). s.rows row) x.next
          ∙ row_here (given_back mid row Idle).rows row _ row refl)
      idle (logs_filled x) = ap (λ (r : Row). r.stage) (ap (λ (s : StoreState). s.rows row) x.next
          ∙ row_other (given_back mid row Idle).rows x.posted.channel _ row (λ same.
          unposted x.posted.serial (sym at ∙ ap (λ k. (rows_of p.rows k).stage) same
          ∙ ap (λ (r : Rows). (r x.posted.channel).stage) (sym rows) ∙ ap (λ (r : Row). r.stage) x.posted.row))
          ∙ row_here mid.rows row _ row refl)

  abbrev Own : Type 0
  Own = ChannelTurn d.tells (state_of d p) (state_of d q) channel

  abbrev LogsItself : ℕ → Type 0
  LogsItself k = logs_itself (stage_in_run (rows_of p.rows k).stage) ≡ true

  halted : LogsItself channel → (t : kind.Halts (state_of d p) (state_of d q)) → Own
  halted itself t =
      let e = logs _ t.next t.channel (rows_of p.rows) t.command t.rest _ refl (ap (λ (r : Row). r.left) t.row) in
      turns.halts t e (sym (ap (λ (r : Row). logs_itself (stage_in_run r.stage)) t.row) ∙ subst LogsItself (sym e)
      itself)

  -- such a turn is one of the channel's
  pub own : LogsItself channel → (k : Kind) → IsOwn k → TurnMade d p q k → Own
  own itself kind.reads is made = let t = made.0 in
      turns.reads t (logs _ t.next t.channel (rows_of p.rows) _ t.rest _ refl (ap (λ (r : Row). r.left) t.row))
  own itself kind.refuses_write is made = let t = made.0 in
      turns.refuses_write t (logs _ t.next t.channel (rows_of p.rows) _ t.rest _ refl (ap (λ (r : Row). r.left) t.row))
  own itself kind.writes_page is made = let t = made.0 in
      turns.writes_page t
      (logs _ t.next t.at.channel (rows_of p.rows) _ t.at.rest _ refl (ap (λ (r : Row). r.left) t.at.row))
  own itself kind.fails_to_write is made = let t = made.0 in
      turns.fails_to_write t
      (logs _ t.next t.at.channel (rows_of p.rows) _ t.at.rest _ refl (ap (λ (r : Row). r.left) t.at.row))
  own itself kind.finds_empty is made = let t = made.0 in
      turns.finds_empty t
      (goes _ t.next t.write.channel _ refl Idle (ap (λ (r : Row). r.stage) t.write.row) (λ e. cc e))
  own itself kind.finds_filled is made = let t = made.0 in
      turns.finds_filled t
      (goes _ t.next t.write.channel _ refl Claiming (ap (λ (r : Row). r.stage) t.write.row) (λ e. cc e))
  own itself kind.claims is made = let t = made.0 in
      turns.claims t (goes _ t.next t.write.channel _ refl Claiming (ap (λ (r : Row). r.stage) t.write.row) (λ e. cc e))
  own itself kind.refuses_claim is made = let t = made.0 in
      turns.refuses_claim t
      (logs _ t.next t.write.channel (rows_of p.rows) _ t.write.rest _ refl (ap (λ (r : Row). r.left) t.write.row))
  own itself kind.copies is made = let t = made.0 in
      turns.copies t
      (goes _ t.next t.copying.row _ refl (Copying (suc t.left)) (ap (λ (r : Row). r.stage) t.copying.is)
      (copied t.left))
  own itself kind.loses_copy is made = let t = made.0 in
      turns.loses_copy t
      (goes _ t.next t.copying.row _ refl (Copying (suc t.left)) (ap (λ (r : Row). r.stage) t.copying.is) (λ e. cc e))
  own itself kind.copy_not_read is made = let t = made.0 in
      turns.copy_not_read t (stops (state_of d p) refl t.copying.row (Copying (suc t.left))
      (ap (λ (r : Row). r.stage) t.copying.is) (λ e. cc e) (λ serial e. cc e) _ _ t.logs)
  own itself kind.copy_fails is made = let t = made.0 in
      turns.copy_fails t (stops (stopped_now (state_of d p)) refl t.copying.row t.stage
      (ap (λ (r : Row). r.stage) t.copying.is) (tried_waits t.copying.claim t.stage t.tried)
      (tried_unposted t.copying.claim t.stage t.tried) _ _ t.logs)
    where
      tried_waits : (claim : OpenClaim) (stage : Stage) → TriedCopy (state_of d p) claim stage → stage ≡ Idle → ⊥
      tried_waits claim stage (copy left page content at current next) bad = let both = sym at ∙ bad in cc both
      tried_waits claim stage (flush at) bad = let both = sym at ∙ bad in cc both

      tried_unposted : (claim : OpenClaim) (stage : Stage) → TriedCopy (state_of d p) claim stage → (serial : ℕ)
          → stage ≡ Posted serial → ⊥
      tried_unposted claim stage (copy left page content at current next) serial bad =
          let both = sym at ∙ bad in cc both
      tried_unposted claim stage (flush at) serial bad = let both = sym at ∙ bad in cc both
  own itself kind.halts_fill is made = let t = made.0 in
      let e = logs _ t.next t.posted.channel (given_back (state_of d p) fill_row _).rows t.posted.command t.posted.rest
      _
      refl (ap (λ (r : Row). r.left) t.posted.row) in
      absurd (false≢true (sym (ap (λ (r : Row). logs_itself (stage_in_run r.stage)) t.posted.row)
      ∙ subst LogsItself (sym e) itself))
  own itself kind.flushes is made = let t = made.0 in
      turns.flushes t (logs _ t.next t.channel (rows_of p.rows) _ t.rest _ refl (ap (λ (r : Row). r.left) t.row))
  own itself kind.flush_fails is made = let t = made.0 in
      turns.flush_fails t (logs _ t.next t.channel (rows_of p.rows) _ t.rest _ refl (ap (λ (r : Row). r.left) t.row))
  own itself kind.halts is made = halted itself made.0
  own itself _ is made = absurd is

  pub reads : LogsItself channel → TurnsAs d IsOfRead p q → Own
  reads itself t = own itself t.kind (read_own t.kind t.is) t.made

  pub flushes : LogsItself channel → TurnsAs d IsOfFlush p q → Own
  flushes itself t = own itself t.kind (flush_own t.kind t.is) t.made

  pub goes_on : LogsItself channel → (w : RowStage) → GoesOn d w p q → Own
  goes_on itself waits.Write made = own itself kind.finds_empty tt made
  goes_on itself waits.Claim (inl made) = own itself kind.finds_filled tt made
  goes_on itself waits.Claim (inr made) = own itself kind.claims tt made
  goes_on itself (waits.Copy left) (inl made) = own itself kind.loses_copy tt made
  goes_on itself (waits.Copy left) (inr made) = own itself kind.copies tt made
  goes_on itself _ none = absurd none

  pub logs_write : LogsItself channel → (w : RowStage) → LogsWrite d w p q → Own
  logs_write itself waits.Write t = own itself t.kind (write_own t.kind t.is) t.made
  logs_write itself waits.Claim t = own itself t.kind (claim_own t.kind t.is) t.made
  logs_write itself (waits.Copy left) t = own itself t.kind (copy_own t.kind t.is) t.made
  logs_write itself waits.Ready t = own itself t.kind (send_own t.kind t.is) t.made
  logs_write itself _ none = absurd none

  pub settles : TurnMade d p q kind.settles → Own
  settles made = let t = made.0 in
      turns.settles t (goes _ t.next t.channel _ refl (Decided t.outcome) t.decided (λ e. cc e))

  pub ends : TurnMade d p q kind.ends → Own
  ends made = let t = made.0 in
      turns.ends t (goes _ t.next t.channel _ refl Idle (ap (λ (r : Row). r.stage) t.over) (λ e. cc e))

  abbrev PostsOwn : Msg → Type 0
  PostsOwn msg = PostsRow d p q channel msg

  pub posts : (msg : Msg) → TurnMade d p q kind.posts → msg ≡ record { channel = channel; serial = p.serial }
      → PostsOwn msg
  posts msg made is = let t = made.0 in
      record {
        turn = turns.posts t (goes _ t.next t.channel _ refl Idle (ap (λ (r : Row). r.stage) t.row) (λ e. cc e));
        message = is;
      }

  pub sends : (w : RowStage) (msg : Msg) → PostsInsert d w p q channel msg → PostsOwn msg
  sends w msg x = let t = x.made.0 in
      record {
        turn = turns.sends t
            (goes _ t.next t.copying.row _ refl Ready (ap (λ (r : Row). r.stage) t.copying.is) (λ e. cc e));
        message = x.message;
      }
