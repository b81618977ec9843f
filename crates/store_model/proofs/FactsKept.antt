-- What every state has, behind a turn: what stays is said here once, so that a turn shows only what changes.
use Rattle.std.proofs.Common.{◌≡◌, ◌≢◌, ◌≤◌, ◌+◌, ◌^◌, ◌++◌, ◌∷◌, ◌∙◌, ℕ, Bool, List, [], length, None, Some}
use Rattle.std.proofs.Common.{ap, arith, length-append, subst, sym}
use Rattle.std.specs.Prelude.{All}
use Rattle.std.proofs.lemmas.List.Elements.{All-push, All-weaker}
use Rattle.super_block.specs.declared.page.Super.{Super}
use Rattle.volume_model.specs.Volumes.{Volumes}
use Rattle.volume_model.specs.Xattrs.{Xattrs}
use Rattle.volume_model.specs.Logs.{IsLegal, replay}
use Rattle.volume_model.specs.Steps.{Allowed}
use Rattle.volume_model.specs.declared.command.Command.{Command}
use Rattle.volume_model.specs.declared.reply.Reply.{Reply}
use Rattle.volume_model.specs.declared.reply.Entry.{Entry}
use Rattle.blob_meta.specs.declared.meta.Meta.{Meta}
use Rattle.blob_meta.specs.Resolving.{IsLawful, resolved, slots_together}
use Rattle.store_model.specs.Copying.{AreCopied}
use Rattle.store_model.specs.Device.{Device}
use Rattle.store_model.specs.Guarding.{AreGenerations, IsGuarded}
use Rattle.store_model.specs.Jobs.{CanReplace, JobStands}
use Rattle.store_model.specs.Maps.{Chains, Map, Metas}
use Rattle.store_model.specs.Phases.{replaced, Replacing}
use Rattle.store_model.specs.Places.{claimed_by, held_by, UsedPages}
use Rattle.store_model.specs.Rows.{entry_of, Rows, Stage, with_row}
use Rattle.store_model.specs.RunInvariant.{AreNamed, AreStored, CanBeWritten, HaveChains, IsShaped, OnItsWay}
use Rattle.store_model.specs.RunInvariant.{RunInvariant, RunsWell}
use Rattle.store_model.specs.Seen.{seen, seen_reply}
use Rattle.store_model.specs.Shown.{fixed_of}
use Rattle.store_model.specs.Steady.{IsStored}
use Rattle.store_model.specs.StoreState.{JobState, logged_to, shown, StoreState}
use Rattle.store_model.proofs.Claims.{differ_still, used_still}
use Rattle.store_model.proofs.ClaimSets.{AreHeld}
use Rattle.store_model.proofs.Guarding.{claims_drawn_still}
use Rattle.store_model.proofs.Known.{Known}
use Rattle.store_model.proofs.RowsKept.{way_kept, way_logged}
use Rattle.store_model.proofs.Seen.{seen_legal}
use Rattle.store_model.proofs.WithEntry.{option_all}

-- ---- a store that runs

-- the metadata as the device says it, with what is in memory of it
abbrev pub Metadata : Type 0
Metadata = Super × Metas × Chains × Map Xattrs × Map ℕ × ℕ

abbrev pub metadata_of : StoreState → Metadata
metadata_of p = (p.super, p.base, p.chains, p.live, p.generations, p.drawn)

-- what is to be shown of a store that runs on with the metadata as it was
pub record RunsOn (first : Volumes) (q : StoreState) : Type 0 where
  pub pages : UsedPages q.super.md_len q.pages q.chains (held_by q.job)
  pub held : AreHeld q q.rows q.clusters
  pub job : (job : JobState) → q.job ≡ Some job → JobStands q job
  pub replayed : shown q ≡ replay (fixed_of q.super) first (seen q.tells q.log)

module _ (first : Volumes) (p q : StoreState) (well : RunsWell first p) where
  pub runs_on : metadata_of q ≡ metadata_of p → RunsOn first q → RunsWell first q
  runs_on same on = record {
    chains = subst (λ (m : Metadata). HaveChains m.0 m.1 m.2) (sym same) well.chains;
    live = subst (λ (m : Metadata). (head : ℕ) (x : Meta) → resolved m.1 head ≡ Some x
        → (xattrs : Xattrs) × (m.3 head ≡ Some xattrs) × CanBeWritten xattrs) (sym same) well.live;
    no_live = subst (λ (m : Metadata). (head : ℕ) → resolved m.1 head ≡ None → m.3 head ≡ None) (sym same)
        well.no_live;
    pages = on.pages;
    clusters = on.held.used;
    claims = on.held.differ;
    job = on.job;
    generations = subst (λ (m : Metadata). AreGenerations m.1 m.4 m.5) (sym same) well.generations;
    claims_drawn = on.held.drawn;
    copied = on.held.copied;
    replayed = on.replayed;
  }

  -- each row, and the job, has the claims that it had
  pub claims_kept : q.super ≡ p.super → q.base ≡ p.base → q.clusters ≡ p.clusters → q.drawn ≡ p.drawn
      → ((c : ℕ) → (q.rows c).claim ≡ (p.rows c).claim) → claimed_by q.job ≡ claimed_by p.job → AreCopied q
      → AreHeld q q.rows q.clusters
  claims_kept super base clusters drawn claims claimed copied = record {
    used = rw (super, clusters, base)
        (used_still p.rows q.rows p.job q.job claims claimed p.super p.clusters p.base well.clusters);
    differ = differ_still p.rows q.rows p.job q.job claims claimed well.claims;
    drawn = claims_drawn_still p.rows q.rows p.drawn q.drawn claims (omega (arith, drawn)) well.claims_drawn;
    copied = copied;
  }

-- ---- what every state has

module _ (known : Known) where
  open known use {s, first, script, p, facts}

  -- what is said of the log
  pub record LogKept (q : StoreState) : Type 0 where
    pub legal : IsLegal (fixed_of s) first (seen q.tells q.log)
    pub way : (channel : ℕ) → OnItsWay q script channel
    pub counted : length q.marks ≡ length q.log + 1
    pub past : All (λ t. t ≤ q.device.clock) q.marks

  -- one entry is logged
  pub log_kept : (next : Stage) (base : StoreState) (channel : ℕ) (command : Command) (rest : List Command)
      (reply : Reply) (d : Device) → base.log ≡ p.log → base.rows ≡ p.rows → base.marks ≡ p.marks
      → base.tells ≡ p.tells
      → (p.rows channel).left ≡ command ∷ rest → p.device.clock ≤ d.clock
      → Allowed (fixed_of s) (replay (fixed_of s) first (seen p.tells p.log)) command (seen_reply p.tells reply)
      → LogKept (logged_to next base channel command rest reply d)
  log_kept next base channel command rest reply d log rows marks tells left later allowed =
      let e : Entry = entry_of base.log channel command reply in
      let same : entry_of base.log channel command reply ≡ entry_of p.log channel command reply =
      ap (λ l. entry_of l channel command reply) log in
      let grown : base.log ++ e ∷ [] ≡ p.log ++ entry_of p.log channel command reply ∷ [] =
      ap (λ l. l ++ entry_of l channel command reply ∷ []) log in
      record {
        legal = subst (λ (b : Bool). IsLegal (fixed_of s) first (seen b (base.log ++ e ∷ []))) (sym tells)
            (subst (λ (l : List Entry). IsLegal (fixed_of s) first (seen p.tells l)) (sym grown)
            (seen_legal p.tells (fixed_of s) first p.log (entry_of p.log channel command reply) facts.legal allowed));
        way = way_logged script p facts.way
            (logged_to next base channel command rest reply d) channel command rest next reply left
            (ap (λ (x : Rows). with_row x channel (record { left = rest; stage = next; claim = None })) rows) grown;
        counted = length-append base.marks (d.clock ∷ []) ∙ omega (
          arith,
          ap (λ (l : List ℕ). length l) marks,
          ap (λ (l : List Entry). length l) log,
          facts.counted,
          length-append base.log (e ∷ []),
        );
        past = All-push (λ t. t ≤ d.clock) base.marks d.clock
            (subst (All (λ t. t ≤ d.clock)) (sym marks) (All-weaker (λ t. t ≤ p.device.clock) (λ t. t ≤ d.clock)
            (λ t le. omega (arith, le, later)) p.marks facts.past)) (omega arith);
      }

  -- nothing is logged, and no command leaves its row
  pub log_stays : (q : StoreState) → q.log ≡ p.log → q.tells ≡ p.tells → q.marks ≡ p.marks
      → ((channel : ℕ) → (q.rows channel).left ≡ (p.rows channel).left) → p.device.clock ≤ q.device.clock → LogKept q
  log_stays q log tells marks left later = record {
    legal = subst (λ (b : Bool). IsLegal (fixed_of s) first (seen b q.log)) (sym tells)
        (subst (λ l. IsLegal (fixed_of s) first (seen p.tells l)) (sym log) facts.legal);
    way = way_kept script p facts.way q log left;
    counted = ap (λ (l : List ℕ). length l) marks ∙ facts.counted ∙ ap (λ l. length l + 1) (sym log);
    past = subst (All (λ t. t ≤ q.device.clock)) (sym marks) (All-weaker (λ t. t ≤ p.device.clock)
        (λ t. t ≤ q.device.clock) (λ t le. omega (arith, le, later)) p.marks facts.past);
  }

  -- what is said of the metadata that the device says
  pub record MetadataKept (base : Metas) : Type 0 where
    pub stored : AreStored s base
    pub named : AreNamed (resolved base)
    pub few : slots_together s.md_len base ≤ 2 ^ 24
    pub lawful : IsLawful s.md_len (resolved base)

  -- that of a replacement that can be made
  pub metadata_replaced : (claimed written : List ℕ) (r : Replacing)
      → CanReplace p.super p.base p.chains claimed written r → MetadataKept (replaced p.base r)
  metadata_replaced claimed written r can = record {
    stored = option_all p.base r.head r.new (IsStored s) facts.stored
        (λ m is. subst (λ (y : Super). IsStored y r.head m) facts.super (can.stored m is));
    named = can.named;
    few = subst (λ (y : Super). slots_together y.md_len (replaced p.base r) ≤ 2 ^ 24) facts.super can.few;
    lawful = subst (λ (y : Super). IsLawful y.md_len (resolved (replaced p.base r))) facts.super can.lawful;
  }

  -- what is to be shown besides
  pub record IsBehind (q : StoreState) : Type 0 where
    pub logs : LogKept q
    pub well : q.stopped ≡ None → RunsWell first q
    pub shaped : IsShaped q
    pub guarded : IsGuarded q
    pub halted : (at : ℕ) → q.stopped ≡ Some at → at ≤ length q.log
    pub unfinished : (job : JobState) → q.job ≡ Some job → job.todo ≢ []

  pub facts_with : (q : StoreState) → q.super ≡ p.super → MetadataKept q.base → IsBehind q
      → RunInvariant s first script q
  facts_with q super metadata behind = record {
    super = super ∙ facts.super;
    stored = metadata.stored;
    named = metadata.named;
    few = metadata.few;
    lawful = metadata.lawful;
    legal = behind.logs.legal;
    well = behind.well;
    way = behind.logs.way;
    shaped = behind.shaped;
    guarded = behind.guarded;
    counted = behind.logs.counted;
    past = behind.logs.past;
    halted = behind.halted;
    unfinished = behind.unfinished;
  }

  -- the metadata stays
  pub facts_kept : (q : StoreState) → q.super ≡ p.super → q.base ≡ p.base → IsBehind q → RunInvariant s first script q
  facts_kept q super base = facts_with q super (subst MetadataKept (sym base) (record {
    stored = facts.stored;
    named = facts.named;
    few = facts.few;
    lawful = facts.lawful;
  }))
