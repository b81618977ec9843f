-- What is known of a channel from what its row waits for.
use Rattle.std.proofs.Common.{◌⊎◌, ◌≡◌, ℕ, ◌<◌, List, [], ◌∷◌, length, Option, Some, None, refl, sym, ap, subst}
use Rattle.std.proofs.Common.{inl, inr}
use Rattle.std.specs.Prelude.{IsSome}
use Rattle.page_disk.specs.declared.disk.PageDisk.{Ghosts}
use Rattle.volume_model.specs.declared.command.Command.{Command}
use Rattle.volume_model.specs.declared.command.Command.TheVariants as c
use Rattle.volume_model.specs.declared.reply.Msg.{Msg}
use Rattle.store_model.specs.Rows.{Claiming, Copying, Decided, Ended, fill_row, Idle, InJob, IsForMetadata, OpenClaim}
use Rattle.store_model.specs.Rows.{Posted, Ready, Row, Stage}
use Rattle.store_model.specs.Cases as kind
use Rattle.running_store.specs.declared.rows.RowStage.TheVariants.{Meta, Over}
use Rattle.job_begins.specs.declared.begin.BeginTurn.{BeginTurn}
use Rattle.job_begins.specs.declared.begin.BeginTurn.TheVariants as begin
use Rattle.channel_turns.specs.declared.page_reading.ReadTurn.{ReadTurn}
use Rattle.channel_turns.specs.declared.page_reading.ReadTurn.TheVariants as read
use Rattle.channel_turns.specs.ChannelTurns.{IsOfRead}
use Rattle.running_store.specs.TurnMade.{TurnMade, TurnsAs}
use Rattle.job_begins.specs.Begins.{BeginsOrNot}
use Rattle.running_store.specs.RunningState.{IsRunning}
use Rattle.store_core.specs.StoreInvariant.{StoreInvariant}
use Rattle.running_store.specs.StoreView.{StoreView, WithOpening, rows_of, state_of}
use Rattle.running_store.specs.Requests.{HavePosted, IsPostedBy}
use Rattle.running_store.specs.Stages.{is_stage, waits_for}
use Rattle.running_store.specs.Steps.{IsPostedAt, WaitsForMetadata}
use Rattle.store_model.specs.RunInvariant.{IsShaped, MayClaim}
use Rattle.store_model.proofs.Shaped.{no_claim}
use Rattle.running_store.proofs.Rowing.{channel_low}
use Rattle.store_core.proofs.FillKept.{fill_left}

-- the first command of a row is for the metadata thread
pub record HasMeta (left : List Command) (stage : Stage) : Type 0 where
  pub command : Command
  pub rest : List Command
  pub first : left ≡ command ∷ rest
  pub idle : stage ≡ Idle
  pub is_meta : IsForMetadata command

meta_first : (command : Command) (rest : List Command) → waits_for command ≡ Meta → HasMeta (command ∷ rest) Idle
meta_first command rest is =
    record { command = command; rest = rest; first = refl; idle = refl; is_meta = by command is }
  where
    by : (k : Command) → waits_for k ≡ Meta → IsForMetadata k
    by (c.Read volume page) bad = cc bad
    by (c.Write volume page word) bad = cc bad
    by c.Flush bad = cc bad
    by _ is = tt

-- a first command waits for something
never_over : (k : Command) → waits_for k ≡ Over → ⊥
never_over (c.Read volume page) bad = cc bad
never_over (c.Write volume page word) bad = cc bad
never_over c.Flush bad = cc bad
never_over _ bad = cc bad

at_meta : (left : List Command) (stage : Stage) (claim : Option OpenClaim) (channel : ℕ)
    → is_stage (record { left = left; stage = stage; claim = claim }) channel ≡ Meta → HasMeta left stage
at_meta [] Idle claim channel is = absurd (cc is)
at_meta (command ∷ rest) Idle claim channel is = meta_first command rest is
at_meta left Claiming claim channel is = absurd (cc is)
at_meta left (Copying count) claim channel is = absurd (cc is)
at_meta left Ready claim channel is = absurd (cc is)
at_meta left (Posted serial) claim channel is = absurd (cc is)
at_meta left InJob claim channel is = absurd (cc is)
at_meta left (Decided outcome) claim channel is = absurd (cc is)
at_meta left Ended claim channel is = absurd (cc is)

at_over : (left : List Command) (stage : Stage) (claim : Option OpenClaim) (channel : ℕ)
    → is_stage (record { left = left; stage = stage; claim = claim }) channel ≡ Over → (left ≡ []) × (stage ≡ Idle)
at_over [] Idle claim channel is = (refl, refl)
at_over (command ∷ rest) Idle claim channel is = absurd (never_over command is)
at_over left Claiming claim channel is = absurd (cc is)
at_over left (Copying count) claim channel is = absurd (cc is)
at_over left Ready claim channel is = absurd (cc is)
at_over left (Posted serial) claim channel is = absurd (cc is)
at_over left InJob claim channel is = absurd (cc is)
at_over left (Decided outcome) claim channel is = absurd (cc is)
at_over left Ended claim channel is = absurd (cc is)

-- a store in which no row holds a claim but where it may
module _ {D : Type 0} (d : Ghosts D) (p : StoreView D) (shaped : IsShaped (state_of d p)) (channel : ℕ) where
  -- a row that waits for its first command to be done holds no claim
  idle_unclaimed : (rows_of p.rows channel).stage ≡ Idle → (rows_of p.rows channel).claim ≡ None
  idle_unclaimed idle = no_claim (state_of d p) shaped channel (λ may. subst MayClaim idle may)

  pub waits_meta : is_stage (rows_of p.rows channel) channel ≡ Meta → WaitsForMetadata p channel
  waits_meta is =
      let row = rows_of p.rows channel in
      let x = at_meta row.left row.stage row.claim channel is in
      let none = idle_unclaimed x.idle in
      record {
        command = x.command;
        rest = x.rest;
        is_meta = x.is_meta;
        row = λ i. record { left = x.first i; stage = x.idle i; claim = none i };
      }

  pub over_row : is_stage (rows_of p.rows channel) channel ≡ Over
      → rows_of p.rows channel ≡ record { left = []; stage = Idle; claim = None }
  over_row is =
      let row = rows_of p.rows channel in
      let x = at_over row.left row.stage row.claim channel is in
      let none = idle_unclaimed x.1 in
      λ i. record { left = x.0 i; stage = x.1 i; claim = none i }

  pub low_meta : length p.rows ≡ 17 → (rows_of p.rows fill_row).left ≡ []
      → is_stage (rows_of p.rows channel) channel ≡ Meta → channel < 16
  low_meta seventeen none is =
      let x = waits_meta is in
      channel_low p.rows channel x.command x.rest seventeen none (ap (λ (r : Row). r.left) x.row)

-- each row that is posted without a claim has a command
pub have_posted : {D : Type 0} (d : Ghosts D) (p : WithOpening D) → StoreInvariant d p → HavePosted p.at.rows
have_posted d p kept channel serial is none = kept.facts.shaped.posted channel serial is (inl none)

-- a command that is posted, by what is kept
pub posted_at : {D : Type 0} (d : Ghosts D) (p : WithOpening D) (msg : Msg) → StoreInvariant d p
    → IsPostedBy p.at.rows msg → IsPostedAt p.at msg.channel
posted_at d p msg kept is = by (rows_of p.at.rows msg.channel).left refl
  where
    by : (left : List Command) → (rows_of p.at.rows msg.channel).left ≡ left → IsPostedAt p.at msg.channel
    by [] none = absurd (kept.facts.shaped.posted msg.channel msg.serial is.stage (inl is.unclaimed) none)
    by (command ∷ rest) some = record {
      serial = msg.serial;
      waits = record {
        command = command;
        rest = rest;
        row = λ i. record { left = some i; stage = is.stage i; claim = is.unclaimed i };
      };
    }

-- its channel is one of the sixteen
pub posted_low : {D : Type 0} (d : Ghosts D) (p : WithOpening D) (msg : Msg) → StoreInvariant d p
    → length p.at.rows ≡ 17 → IsPostedBy p.at.rows msg → msg.channel < 16
posted_low d p msg kept seventeen is =
    let x = posted_at d p msg kept is in
    channel_low p.at.rows msg.channel x.waits.command x.waits.rest seventeen (fill_left d p kept)
    (ap (λ (r : Row). r.left) x.waits.row)

pub kept_running : {D : Type 0} (d : Ghosts D) (p : WithOpening D) → StoreInvariant d p → IsRunning (state_of d p.at)
kept_running d p kept =
    record {
      store = p.opening.super;
      first = _;
      script = _;
      placed = kept.placed;
      named = kept.named;
      facts = kept.facts;
    }

-- one of two cases, by whether the store is stopped
pub either : {D : Type 0} (d : Ghosts D) (p : WithOpening D) (q : StoreView D) (a b : kind.Kind) → ((k : kind.Kind)
    → TurnMade d p.at q k → StoreInvariant d (record { at = q; opening = p.opening; right = p.right }))
    → (p.at.stopped ≡ None → TurnMade d p.at q a) → (IsSome p.at.stopped → TurnMade d p.at q b)
    → StoreInvariant d (record { at = q; opening = p.opening; right = p.right })
either d p q a b goes_on runs stops = by p.at.stopped refl
  where
    by : (o : Option ℕ) → p.at.stopped ≡ o → StoreInvariant d (record { at = q; opening = p.opening; right = p.right })
    by None is = goes_on a (runs is)
    by (Some at) is = goes_on b (stops (subst IsSome (sym is) refl))

-- a job that begins or not, by whether the store is stopped
pub begun_or_not : {D : Type 0} (d : Ghosts D) (p : WithOpening D) (q : StoreView D) (turn : BeginTurn)
    → ((k : kind.Kind)
    → TurnMade d p.at q k → StoreInvariant d (record { at = q; opening = p.opening; right = p.right }))
    → (p.at.stopped ≡ None → BeginsOrNot d p.at q turn)
    → (IsSome p.at.stopped → (turn ≡ begin.Logged) × TurnMade d p.at q kind.halts)
    → StoreInvariant d (record { at = q; opening = p.opening; right = p.right })
begun_or_not d p q turn goes_on runs stops = by p.at.stopped refl
  where
    made : (t : BeginTurn) → BeginsOrNot d p.at q t
        → StoreInvariant d (record { at = q; opening = p.opening; right = p.right })
    made begin.Began x = goes_on kind.begins x
    made begin.Logged x = goes_on kind.refuses x

    by : (o : Option ℕ) → p.at.stopped ≡ o → StoreInvariant d (record { at = q; opening = p.opening; right = p.right })
    by None is = made turn (runs is)
    by (Some at) is = goes_on kind.halts (stops (subst IsSome (sym is) refl)).1

-- what is kept where a turn of one of these kinds is made, or nothing is done
pub turned_or_not : {D : Type 0} (d : Ghosts D) (p : WithOpening D) (q : StoreView D) (which : kind.Kind → Type 0)
    → StoreInvariant d p → ((k : kind.Kind)
    → TurnMade d p.at q k → StoreInvariant d (record { at = q; opening = p.opening; right = p.right }))
    → (q ≡ p.at) ⊎ TurnsAs d which p.at q
    → StoreInvariant d (record { at = q; opening = p.opening; right = p.right })
turned_or_not {D = D} d p q which kept goes_on (inl same) =
    subst (λ (x : StoreView D). StoreInvariant d (record { at = x; opening = p.opening; right = p.right })) (sym same)
    kept
turned_or_not {D = D} d p q which kept goes_on (inr turns) = goes_on turns.kind turns.made

-- a read of a page is one of its turns, or nothing is done
pub by_read : {D : Type 0} (d : Ghosts D) (p q : StoreView D) (turn : ReadTurn) → (turn ≡ read.Frozen → q ≡ p)
    → (turn ≡ read.Logged → TurnsAs d IsOfRead p q) → (q ≡ p) ⊎ TurnsAs d IsOfRead p q
by_read d p q read.Frozen same turns = inl (same refl)
by_read d p q read.Logged same turns = inr (turns refl)

-- a store that has no job or has stopped, and hasn't stopped, has no job
pub job_over : {D : Type 0} (p : StoreView D) → (p.job ≡ None) ⊎ IsSome p.stopped → p.stopped ≡ None → p.job ≡ None
job_over p (inl none) runs = none
job_over p (inr stopped) runs =
    absurd (let bad : IsSome {T = ℕ} None = subst (λ o. IsSome {T = ℕ} o) runs stopped in cc bad)
