-- Why a command is refused, and that a refusal is allowed.
use Rattle.std.proofs.Common.{◌≡◌, ◌∙◌, ◌<◌, ℕ, List, [], ◌∷◌, length, Some, None, ap, arith, subst, sym}
use Rattle.pools.specs.Pool.{clear_in}
use Rattle.volume_model.specs.Volumes.{Fixed, Volumes}
use Rattle.volume_model.specs.Refusals.{refusal}
use Rattle.volume_model.specs.Steps.{IsRefusal, Allowed}
use Rattle.volume_model.specs.declared.command.Command.{Command}
use Rattle.volume_model.specs.declared.command.Command.TheVariants as c
use Rattle.volume_model.specs.declared.reply.Reply.{Reply}
use Rattle.volume_model.specs.declared.reply.Reply.TheVariants as r
use Rattle.store_model.specs.Shown.{fixed_of}
use Rattle.store_model.specs.StoreState.{StoreState, shown}
use Rattle.blob_meta.specs.declared.job.Job.{Job as Changes}
use Rattle.store_model.specs.Phases.{Committing}
use Rattle.inflate_delete.specs.DeletePlans.{IsJobBeside}
use Rattle.inflate_delete.specs.Fills.{command_of}
use Rattle.inflate_delete.specs.declared.filling.FillKind.{FillKind}
use Rattle.inflate_delete.specs.declared.filling.FillKind.TheVariants.{Inflate, Decouple}
use Rattle.store_model.specs.Asking.{AsksFor, clones, creates, deletes, fills, IsJobFor, IsSyncing, resizes, snapshots}
use Rattle.store_model.specs.Asking.{syncs}
use Rattle.store_model.specs.Cases.{IsCauseReply, IsRefusedAtBegin, IsRefusedBy}

-- ---- refusals

pub is_refusal : (p : StoreState) (command : Command) (reply : Reply) → IsRefusedAtBegin p command reply
    → IsRefusal reply
is_refusal p command r.Ok why = why.0
is_refusal p command (r.Made head) why = why.0
is_refusal p command (r.Content page) why = why.0
is_refusal p command (r.Value value) why = why.0
is_refusal p command (r.Info info) why = why.0
is_refusal p command (r.List infos) why = why.0
is_refusal p command (r.Df df) why = why.0
is_refusal p command _ why = tt

-- a command that asks for a job may be done, lack pages, or fail
pub record May (f : Fixed) (v : Volumes) (command : Command) : Type 0 where
  pub done : Allowed f v command r.Ok
  pub lack : Allowed f v command r.NoPage
  pub fail : Allowed f v command r.Fault

syncing_may : (f : Fixed) (v : Volumes) (command : Command) → IsSyncing command → refusal f v command ≡ None
    → May f v command
syncing_may f v (c.Put volume key value) is asked = record { done = (asked, tt); lack = (asked, tt); fail = tt }
syncing_may f v (c.Sync volume) is asked = record { done = (asked, tt); lack = (asked, tt); fail = tt }
syncing_may f v (c.ReadOnly volume) is asked = record { done = (asked, tt); lack = (asked, tt); fail = tt }
syncing_may f v (c.Rename volume name) is asked = record { done = (asked, tt); lack = (asked, tt); fail = tt }
syncing_may f v _ is asked = absurd is

pub asks_may : (p : StoreState) (command : Command) (head : ℕ) (new : _) (live : _) → AsksFor p command head new live
    → May (fixed_of p.super) (shown p) command
asks_may p command head new live a = syncing_may (fixed_of p.super) (shown p) command a.syncing a.asked

-- each verb that asks for a job may lack pages
may_lack : (p : StoreState) (command : Command) (changes : Changes) (commit : Committing)
    → IsJobFor p command changes commit → Allowed (fixed_of p.super) (shown p) command r.NoPage
may_lack p command changes commit (syncs x) = (asks_may p command x.head x.new x.live x.asks).lack
may_lack p command changes commit (creates x) =
    let lack : Allowed (fixed_of p.super) (shown p) (c.Create x.name x.slots x.thick x.uuid) r.NoPage =
    (ap (refusal (fixed_of p.super) (shown p)) (sym x.command_is) ∙ x.asked, tt) in
    subst (λ (k : Command). Allowed (fixed_of p.super) (shown p) k r.NoPage) (sym x.command_is) lack
may_lack p command changes commit (resizes x) =
    let lack : Allowed (fixed_of p.super) (shown p) (c.Resize x.volume x.slots) r.NoPage =
    (ap (refusal (fixed_of p.super) (shown p)) (sym x.command_is) ∙ x.asked, tt) in
    subst (λ (k : Command). Allowed (fixed_of p.super) (shown p) k r.NoPage) (sym x.command_is) lack
may_lack p command changes commit (clones x) =
    let lack : Allowed (fixed_of p.super) (shown p) (c.Clone x.volume x.name) r.NoPage =
    (ap (refusal (fixed_of p.super) (shown p)) (sym x.command_is) ∙ x.asked, tt) in
    subst (λ (k : Command). Allowed (fixed_of p.super) (shown p) k r.NoPage) (sym x.command_is) lack
may_lack p command changes commit (snapshots x) =
    let lack : Allowed (fixed_of p.super) (shown p) (c.Snapshot x.volume x.name) r.NoPage =
    (ap (refusal (fixed_of p.super) (shown p)) (sym x.command_is) ∙ x.asked, tt) in
    subst (λ (k : Command). Allowed (fixed_of p.super) (shown p) k r.NoPage) (sym x.command_is) lack
may_lack p command changes commit (deletes x) =
    let lack : Allowed (fixed_of p.super) (shown p) (c.Delete x.volume) r.NoPage =
    (ap (refusal (fixed_of p.super) (shown p)) (sym x.command_is) ∙ x.asked, tt) in
    subst (λ (k : Command). Allowed (fixed_of p.super) (shown p) k r.NoPage) (sym x.command_is) lack
may_lack p command changes commit (fills x) =
    subst (λ (k : Command). Allowed (fixed_of p.super) (shown p) k r.NoPage) (sym x.command_is) (by x.kind)
  where
    by : (kind : FillKind) → Allowed (fixed_of p.super) (shown p) (command_of kind x.volume) r.NoPage
    by Inflate = (tt, tt)
    by Decouple = (tt, tt)

-- and one that asks for slots of zeros may find too few clusters
may_be_full : (p : StoreState) (command : Command) (changes : Changes) (commit : Committing)
    → IsJobFor p command changes commit → clear_in p.clusters < length changes.zero
    → Allowed (fixed_of p.super) (shown p) command r.Full
may_be_full p command changes commit (syncs x) fewer =
    absurd (let none = ap (λ (y : Changes). length y.zero) x.is in omega (arith, fewer, none))
may_be_full p command changes commit (creates x) fewer =
    let full : Allowed (fixed_of p.super) (shown p) (c.Create x.name x.slots x.thick x.uuid) r.Full =
    (ap (refusal (fixed_of p.super) (shown p)) (sym x.command_is) ∙ x.asked, tt) in
    subst (λ (k : Command). Allowed (fixed_of p.super) (shown p) k r.Full) (sym x.command_is) full
may_be_full p command changes commit (resizes x) fewer =
    let full : Allowed (fixed_of p.super) (shown p) (c.Resize x.volume x.slots) r.Full =
    (ap (refusal (fixed_of p.super) (shown p)) (sym x.command_is) ∙ x.asked, tt) in
    subst (λ (k : Command). Allowed (fixed_of p.super) (shown p) k r.Full) (sym x.command_is) full
may_be_full p command changes commit (clones x) fewer =
    absurd (let none = ap (λ (y : Changes). length y.zero) x.is in omega (arith, fewer, none))
may_be_full p command changes commit (snapshots x) fewer =
    absurd (let none = ap (λ (y : Changes). length y.zero) x.is in omega (arith, fewer, none))
may_be_full p command changes commit (deletes x) fewer =
    absurd (let none = no_zeros x.clones x.is in omega (arith, fewer, none))
  where
    no_zeros : (clones_of : List ℕ) → IsJobBeside p.base x.of x.old clones_of changes → length changes.zero ≡ 0
    no_zeros [] is = ap (λ (y : Changes). length y.zero) is
    no_zeros (clone ∷ []) is = ap (λ (y : Changes). length y.zero) is.2
    no_zeros (clone ∷ other ∷ rest) is = absurd is
may_be_full p command changes commit (fills x) fewer =
    absurd (let none = ap (λ (y : Changes). length y.zero) x.is in omega (arith, fewer, none))

pub is_allowed : (p : StoreState) (command : Command) (reply : Reply) → IsRefusedAtBegin p command reply
    → Allowed (fixed_of p.super) (shown p) command reply
is_allowed p command r.Ok why = absurd why.0
is_allowed p command (r.Made head) why = absurd why.0
is_allowed p command (r.Content page) why = absurd why.0
is_allowed p command (r.Value value) why = absurd why.0
is_allowed p command (r.Info info) why = absurd why.0
is_allowed p command (r.List infos) why = absurd why.0
is_allowed p command (r.Df df) why = absurd why.0
is_allowed p command r.Full why = may_be_full p command why.changes why.commit why.asked why.fewer
is_allowed p command r.NoPage why = may_lack p command why.changes why.commit why.asked
is_allowed p command r.ReadFault why = absurd why.0
is_allowed p command r.Fault why = absurd why.0
is_allowed p command (r.Stopped at) why = absurd why.0
is_allowed p command r.Memory why = why
is_allowed p command r.NoVolume why = why.1
is_allowed p command r.OutOfRange why = why.1
is_allowed p command r.ReadOnly why = why.1
is_allowed p command r.NotReadOnly why = why.1
is_allowed p command r.NameTaken why = why.1
is_allowed p command (r.Busy n) why = why.1
is_allowed p command r.NoParent why = why.1
is_allowed p command r.Short why = why.1
is_allowed p command r.Reserved why = why.1
is_allowed p command r.NoValue why = why.1
is_allowed p command r.TooLong why = why.1
is_allowed p command r.TooLarge why = why.1

-- a first cause is why a command is refused
pub caused_so : (p : StoreState) (command : Command) (reply : Reply) → IsCauseReply reply
    → refusal (fixed_of p.super) (shown p) command ≡ Some reply → IsRefusedAtBegin p command reply
caused_so p command r.Memory caused cause = absurd caused
caused_so p command r.NoPage caused cause = absurd caused
caused_so p command r.Full caused cause = absurd caused
caused_so p command _ caused cause = (caused, cause)

-- why a command is refused by who plans it is why it is refused at its begin
pub at_begin_too : (p : StoreState) (command : Command) (reply : Reply) → IsRefusedBy p command reply
    → IsRefusedAtBegin p command reply
at_begin_too p command r.NoPage why = absurd why.0
at_begin_too p command r.Full why = absurd why.0
at_begin_too p command _ why = why
