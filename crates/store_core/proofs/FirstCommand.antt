-- What a channel's first command is, by what its row waits for.
use Rattle.std.proofs.Common.{◌≡◌, ℕ, zero, suc, ◌<◌, List, [], ◌∷◌, length, Option, Some, None, refl, sym, subst}
use Rattle.std.proofs.Common.{arith, IsSome}
use Rattle.page_disk.specs.declared.disk.PageDisk.{Ghosts}
use Rattle.volume_model.specs.declared.command.Command.{Command}
use Rattle.volume_model.specs.declared.command.Command.TheVariants as c
use Rattle.super_block.specs.Numbers.{cluster_pages_of}
use Rattle.store_model.specs.Rows.{Claiming, Copying, Decided, Decision, Ended, fill_row, Idle, InJob, OpenClaim}
use Rattle.store_model.specs.Rows.{Posted, Ready, Row, Stage}
use Rattle.store_model.specs.RunInvariant.{IsShaped, MayClaim}
use Rattle.store_model.proofs.Shaped.{no_claim}
use Rattle.running_store.specs.declared.rows.RowStage.{RowStage}
use Rattle.running_store.specs.declared.rows.RowStage.TheVariants as waits
use Rattle.channel_turns.specs.ChannelTurns.{WaitsToFlush, WaitsToRead, WaitsToWrite}
use Rattle.channel_turns.specs.ClaimTurns.{HoldsClaim, WaitsToCopy}
use Rattle.store_core.specs.StoreInvariant.{StoreInvariant}
use Rattle.running_store.specs.StoreView.{StoreView, WithOpening, rows_of, state_of}
use Rattle.running_store.specs.Stages.{is_stage, waits_for}
use Rattle.running_store.proofs.Rowing.{channel_low, low_of}
use Rattle.store_core.proofs.FillKept.{fill_left}
use Rattle.store_core.proofs.OwnKept.{rows_work}
use Rattle.store_core.proofs.Staged.{IsStagedAt, IsToCopy, staged}

-- what a row waits for whose first command is a channel's own
abbrev IsOwn : RowStage → Type 0
IsOwn waits.Read = Unit {0}
IsOwn waits.Write = Unit {0}
IsOwn waits.Flush = Unit {0}
IsOwn _ = ⊥

-- the first command of a row, which waits for this
record HasOwn (left : List Command) (stage : Stage) (for : RowStage) : Type 0 where
  command : Command
  rest : List Command
  first : left ≡ command ∷ rest
  idle : stage ≡ Idle
  waits_is : waits_for command ≡ for

own_first : (left : List Command) (stage : Stage) (claim : Option OpenClaim) (channel : ℕ) (for : RowStage) → IsOwn for
    → is_stage (record { left = left; stage = stage; claim = claim }) channel ≡ for → HasOwn left stage for
own_first [] Idle claim channel for own is = absurd (subst IsOwn (sym is) own)
own_first (command ∷ rest) Idle claim channel for own is =
    record { command = command; rest = rest; first = refl; idle = refl; waits_is = is }
own_first left Claiming claim channel for own is = absurd (subst IsOwn (sym is) own)
own_first left (Copying count) claim channel for own is = absurd (subst IsOwn (sym is) own)
own_first left Ready claim channel for own is = absurd (subst IsOwn (sym is) own)
own_first left (Posted serial) claim channel for own is = absurd (subst IsOwn (sym is) own)
own_first left InJob claim channel for own is = absurd (subst IsOwn (sym is) own)
own_first left (Decided outcome) claim channel for own is = absurd (subst IsOwn (sym is) own)
own_first left Ended claim channel for own is = absurd (subst IsOwn (sym is) own)

-- what a row's stage is where it waits for a step of a write whose slot is empty
abbrev IsAtStep : RowStage → Stage → Type 0
IsAtStep waits.Claim stage = stage ≡ Claiming
IsAtStep (waits.Copy left) stage = stage ≡ Copying left
IsAtStep waits.Ready stage = stage ≡ Ready
IsAtStep _ stage = Unit {0}

none_first : (command : Command) (stage : Stage) → IsAtStep (waits_for command) stage
none_first (c.Read volume page) stage = tt
none_first (c.Write volume page word) stage = tt
none_first c.Flush stage = tt
none_first _ stage = tt

at_step : (left : List Command) (stage : Stage) (claim : Option OpenClaim) (channel : ℕ)
    → IsAtStep (is_stage (record { left = left; stage = stage; claim = claim }) channel) stage
at_step [] Idle claim channel = tt
at_step (command ∷ rest) Idle claim channel = none_first command Idle
at_step left Claiming claim channel = refl
at_step left (Copying count) claim channel = refl
at_step left Ready claim channel = refl
at_step left (Posted serial) claim channel = tt
at_step left InJob claim channel = tt
at_step left (Decided outcome) claim channel = tt
at_step left Ended claim channel = tt

-- a store in which no row holds a claim but where it may
module _ {D : Type 0} (d : Ghosts D) (p : StoreView D) (shaped : IsShaped (state_of d p)) (channel : ℕ) where
  abbrev row : Row
  row = rows_of p.rows channel

  module _ (for : RowStage) (own : IsOwn for) (is : is_stage row channel ≡ for) where
    abbrev x : HasOwn row.left row.stage for
    x = own_first row.left row.stage row.claim channel for own is

    row_is : row ≡ record { left = x.command ∷ x.rest; stage = Idle; claim = None }
    row_is =
        let none : row.claim ≡ None = no_claim (state_of d p) shaped channel (λ may. subst MayClaim x.idle may) in
        λ i. record { left = x.first i; stage = x.idle i; claim = none i }

    low : length p.rows ≡ 17 → (rows_of p.rows fill_row).left ≡ [] → channel < 16
    low seventeen none = channel_low p.rows channel x.command x.rest seventeen none x.first

  pub waits_flush : is_stage row channel ≡ waits.Flush → WaitsToFlush p channel
  waits_flush is =
      let y = x waits.Flush tt is in
      by y.command y.rest y.waits_is (row_is waits.Flush tt is)
    where
      by : (command : Command) (rest : List Command) → waits_for command ≡ waits.Flush
          → row ≡ record { left = command ∷ rest; stage = Idle; claim = None } → WaitsToFlush p channel
      by c.Flush rest for r = record { rest = rest; row = r }
      by (c.Read volume page) rest for r = cc for
      by (c.Write volume page word) rest for r = cc for
      by _ rest for r = cc for

  pub low_flush : length p.rows ≡ 17 → (rows_of p.rows fill_row).left ≡ [] → is_stage row channel ≡ waits.Flush
      → channel < 16
  low_flush seventeen none is = low waits.Flush tt is seventeen none

  pub waits_write : is_stage row channel ≡ waits.Write → WaitsToWrite p channel Idle
  waits_write is =
      let y = x waits.Write tt is in
      by y.command y.rest y.waits_is (row_is waits.Write tt is)
    where
      by : (command : Command) (rest : List Command) → waits_for command ≡ waits.Write
          → row ≡ record { left = command ∷ rest; stage = Idle; claim = None } → WaitsToWrite p channel Idle
      by (c.Write volume page word) rest for r =
          record { volume = volume; page = page; word = word; rest = rest; row = r }
      by (c.Read volume page) rest for r = cc for
      by c.Flush rest for r = cc for
      by _ rest for r = cc for

  pub low_write : length p.rows ≡ 17 → (rows_of p.rows fill_row).left ≡ [] → is_stage row channel ≡ waits.Write
      → channel < 16
  low_write seventeen none is = low waits.Write tt is seventeen none

  pub waits_read : is_stage row channel ≡ waits.Read → WaitsToRead p channel
  waits_read is =
      let y = x waits.Read tt is in
      by y.command y.rest y.waits_is (row_is waits.Read tt is)
    where
      by : (command : Command) (rest : List Command) → waits_for command ≡ waits.Read
          → row ≡ record { left = command ∷ rest; stage = Idle; claim = None } → WaitsToRead p channel
      by (c.Read volume page) rest for r = record { volume = volume; page = page; rest = rest; row = r }
      by (c.Write volume page word) rest for r = cc for
      by c.Flush rest for r = cc for
      by _ rest for r = cc for

  pub low_read : length p.rows ≡ 17 → (rows_of p.rows fill_row).left ≡ [] → is_stage row channel ≡ waits.Read
      → channel < 16
  low_read seventeen none is = low waits.Read tt is seventeen none

-- a store that turns led to
module _ {D : Type 0} (d : Ghosts D) (p : WithOpening D) (kept : StoreInvariant d p) (channel : ℕ) where
  abbrev r : Row
  r = rows_of p.at.rows channel

  at_stage : (for : RowStage) → is_stage r channel ≡ for → IsAtStep for r.stage
  at_stage for is = subst (λ w. IsAtStep w r.stage) is (at_step r.left r.stage r.claim channel)

  low_at : (stage : Stage) → r.stage ≡ stage → (Ended ≡ stage → ⊥) → length p.at.rows ≡ 17 → channel < 17
  low_at stage is other seventeen = low_of p.at.rows channel stage seventeen is other

  has : (stage : Stage) → r.stage ≡ stage
      → IsStagedAt (cluster_pages_of p.at.super) r.left r.claim stage
  has stage is =
      subst (IsStagedAt (cluster_pages_of p.at.super) r.left r.claim) is (staged d p kept channel)

  pub waits_claim : is_stage r channel ≡ waits.Claim → WaitsToWrite p.at channel Claiming
  waits_claim is =
      let at = at_stage waits.Claim is in
      let x = has Claiming at in
      let none : r.claim ≡ None =
      no_claim (state_of d p.at) kept.facts.shaped channel (λ may. subst MayClaim at may) in
      record {
        volume = x.volume;
        page = x.page;
        word = x.word;
        rest = x.rest;
        row = λ i. record { left = x.is i; stage = at i; claim = none i };
      }

  pub low_claim : length p.at.rows ≡ 17 → is_stage r channel ≡ waits.Claim → channel < 16
  low_claim seventeen is =
      let x = has Claiming (at_stage waits.Claim is) in
      channel_low p.at.rows channel (c.Write x.volume x.page x.word) x.rest seventeen (fill_left d p kept) x.is

  some_of : (o : Option OpenClaim) → IsSome o → (claim : OpenClaim) × (o ≡ Some claim)
  some_of None is = absurd (cc is)
  some_of (Some claim) is = (claim, refl)

  -- its claim, at this stage
  pub holds : (stage : Stage) → r.stage ≡ stage → IsSome r.claim → HoldsClaim d p.at channel stage
  holds stage at claimed =
      let claim = some_of r.claim claimed in
      record {
        left = r.left;
        claim = claim.0;
        is = λ i. record { left = r.left; stage = at i; claim = claim.1 i };
        works = (rows_work d p kept).claims channel claim.0 claim.1;
      }

  pub waits_copy : (left : ℕ) → is_stage r channel ≡ waits.Copy left → WaitsToCopy d p.at channel
  waits_copy left is = by left (at_stage (waits.Copy left) is) (has (Copying left) (at_stage (waits.Copy left) is))
    where
      by : (n : ℕ) → r.stage ≡ Copying n → IsToCopy r.claim n (cluster_pages_of p.at.super)
          → WaitsToCopy d p.at channel
      by zero at x = absurd (let some = x.some in omega (arith, some))
      by (suc n) at x = record { left = n; holds = holds (Copying (suc n)) at x.claimed; few = x.few }

  pub low_copy : (left : ℕ) → length p.at.rows ≡ 17 → is_stage r channel ≡ waits.Copy left → channel < 17
  low_copy left seventeen is = low_at (Copying left) (at_stage (waits.Copy left) is) (λ e. cc e) seventeen

  pub holds_ready : is_stage r channel ≡ waits.Ready → HoldsClaim d p.at channel Ready
  holds_ready is = let at = at_stage waits.Ready is in holds Ready at (has Ready at)

  pub low_ready : length p.at.rows ≡ 17 → is_stage r channel ≡ waits.Ready → channel < 17
  low_ready seventeen is = low_at Ready (at_stage waits.Ready is) (λ e. cc e) seventeen

  -- what is decided of it
  pub decided_so : (outcome : Decision) → r.stage ≡ Decided outcome → length p.at.rows ≡ 17
      → (channel < 17) × (r.claim ≡ None)
  decided_so outcome is seventeen = (
    low_at (Decided outcome) is (λ e. cc e) seventeen,
    no_claim (state_of d p.at) kept.facts.shaped channel (λ may. subst MayClaim is may),
  )
