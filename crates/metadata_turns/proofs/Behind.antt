-- What a replacement makes of the state: what the store has in memory then is what the model says.
use Rattle.std.proofs.Common.{◌≡◌, ℕ, ◌+◌, Bool, false, List, [], ◌∷◌, length, Option, Some, None, refl, sym}
use Rattle.std.proofs.Common.{◌∙◌, ap, drop, inl, inr, arith}
use Rattle.std.specs.Prelude.{is_some, not, ◌&&◌, slice_set}
use Rattle.std.specs.Option.{option_map}
use Rattle.std.specs.Cmp.{nat_cmp_total}
use Rattle.std.specs.Ordering.{eq_by_cmp, nat_cmp}
use Rattle.std.specs.FinMap as map
use Rattle.std.specs.FinSet as set
use Rattle.std.proofs.Math.Path.{fun_ext}
use Rattle.std.proofs.lemmas.Bool.{cases_eq, eq-eqb, ne_eqb}
use Rattle.page_disk.specs.declared.disk.PageDisk.{Ghosts}
use Rattle.volume_model.specs.Xattrs.{Xattrs}
use Rattle.io_freeze.specs.Guards.{GuardsState, guard_removed, renewed}
use Rattle.store_model.specs.Guarding.{all_renewed, frozen_behind, releasing}
use Rattle.store_model.specs.Maps.{with_option, without_entry, Chains, Map, Metas}
use Rattle.store_model.specs.Phases.{with_live, Phase}
use Rattle.store_model.specs.Places.{all_set}
use Rattle.store_model.specs.StoreState.{JobState, StoreState}
use Rattle.store_model.specs.WithReplaced.{with_replaced}
use Rattle.running_store.specs.Blobs.{blobs_behind, commit_of, live_change, numbered_in, Blobs, CanBeKept}
use Rattle.running_store.specs.Effects.{live_seen}
use Rattle.running_store.specs.Jobs.{freeze_of, job_left, job_seen}
use Rattle.running_store.specs.Places.{thawed, with_changes, with_numbers}
use Rattle.running_store.specs.StoreView.{device_of, state_of, StoreView}
use Rattle.running_store.specs.declared.entries.EntryChange.{EntryChange}
use Rattle.running_store.specs.declared.job.RunningJob.{RunningJob}
use Rattle.running_store.specs.declared.job.Serves.{Serves}
use Rattle.running_store.specs.declared.replacements.Change.{Change}
use Rattle.running_store.specs.declared.replacements.Change.TheVariants as change
use Rattle.running_store.proofs.BaseBehind.{base_behind}
use Rattle.running_store.proofs.Maps.{changed_given, insert_given, is_key, remove_given}
use Rattle.running_store.proofs.Thawed.{released_is}
use Rattle.job_views.specs.Replacing.{blobs_in, replacing_for}
use Rattle.metadata_turns.specs.JobTurns.{guards_left}

-- ---- generations and attributes

pub record AreNumbered (guards : GuardsState) (heads : List ℕ) : Type 0 where
  pub generations : map.get (with_numbers guards heads).generations
      ≡ all_renewed (map.get guards.generations) guards.drawn heads
  pub drawn : (with_numbers guards heads).drawn ≡ guards.drawn + length heads
  pub frozen : set.contains (with_numbers guards heads).frozen ≡ set.contains guards.frozen

pub numbered_are : (guards : GuardsState) (heads : List ℕ) → AreNumbered guards heads
numbered_are guards [] = record { generations = refl; drawn = omega arith; frozen = refl }
numbered_are guards (head ∷ heads) =
    let more = numbered_are (renewed guards head) heads in
    let drawn = more.drawn in
    record {
      generations = more.generations ∙ ap (λ (g : Map ℕ). all_renewed g (guards.drawn + 1) heads)
          (insert_given guards.generations head (guards.drawn + 1));
      drawn = omega (arith, drawn);
      frozen = more.frozen;
    }

pub live_given : (live : map.FinMap nat_cmp Xattrs) (o : Option (EntryChange Xattrs))
    → map.get (with_changes live o) ≡ with_live (map.get live) (option_map live_seen o)
live_given live None = refl
live_given live (Some x) = changed_given live x.head x.value

-- ---- the blob that a job freezes

-- it stays frozen while something is left of the job
pub frozen_left : (guards : GuardsState) (serves : Serves) (j : JobState) → j.freeze ≡ freeze_of serves
    → (rest : List Phase) (left : Option JobState) → left ≡ job_left serves rest
    → set.contains (guards_left guards serves left).frozen ≡ frozen_behind (set.contains guards.frozen) j rest
frozen_left guards serves j freezes [] left is =
    ap (λ (o : Option JobState). set.contains (guards_left guards serves o).frozen) is
    ∙ released_is guards (freeze_of serves)
    ∙ ap (releasing (set.contains guards.frozen)) (sym freezes)
frozen_left guards serves j freezes (x ∷ xs) left is =
    ap (λ (o : Option JobState). set.contains (guards_left guards serves o).frozen) is

-- and nothing but that changes
left_generations : (guards : GuardsState) (serves : Serves) (left : Option JobState)
    → (guards_left guards serves left).generations ≡ guards.generations
left_generations guards serves (Some j) = refl
left_generations guards serves None = by (freeze_of serves)
  where
    by : (o : Option ℕ) → (thawed guards o).generations ≡ guards.generations
    by None = refl
    by (Some head) = refl

left_drawn : (guards : GuardsState) (serves : Serves) (left : Option JobState)
    → (guards_left guards serves left).drawn ≡ guards.drawn
left_drawn guards serves (Some j) = refl
left_drawn guards serves None = by (freeze_of serves)
  where
    by : (o : Option ℕ) → (thawed guards o).drawn ≡ guards.drawn
    by None = refl
    by (Some head) = refl

-- what is seen of the job doesn't matter for that
pub guards_seen : (guards : GuardsState) (serves : Serves) (o : Option RunningJob)
    → guards_left guards serves o ≡ guards_left guards serves (option_map job_seen o)
guards_seen guards serves None = refl
guards_seen guards serves (Some j) = refl

-- the state with this left of a job
pub state_left : {D : Type 0} (d : Ghosts D) (p : StoreView D) (serves : Serves) (j : JobState)
    → j.freeze ≡ freeze_of serves → (rest : List Phase) (left : Option JobState) → left ≡ job_left serves rest
    → state_of d (record p { guards = guards_left p.guards serves left })
    ≡ record (state_of d p) { frozen = frozen_behind (set.contains p.guards.frozen) j rest }
state_left d p serves j freezes rest left left_is =
    let kept = guards_left p.guards serves left in
    ap (λ (g : Map ℕ). record (state_of d p) {
      generations = g;
      drawn = kept.drawn;
      frozen = set.contains kept.frozen;
    }) (ap (λ (m : map.FinMap nat_cmp ℕ). map.get m) (left_generations p.guards serves left))
    ∙ ap (λ n. record (state_of d p) { drawn = n; frozen = set.contains kept.frozen })
    (left_drawn p.guards serves left)
    ∙ ap (λ (f : ℕ → Bool). record (state_of d p) { frozen = f })
    (frozen_left p.guards serves j freezes rest left left_is)

-- ---- the store behind a replacement

-- the blobs that get generations
abbrev pub numbered_for : Change → List ℕ
numbered_for (change.Writes p) = numbered_in p.effects.commit (is_some p.effects.rooms.chain) p.head
numbered_for (change.Erases e) = numbered_in e.commit false e.head

abbrev pub freed_by : Change → List ℕ
freed_by (change.Writes p) = p.effects.freed
freed_by (change.Erases e) = e.freed

-- the page of an erased blob's head is clear
abbrev pub pages_behind : List Bool → Change → List Bool
pages_behind pages (change.Writes p) = pages
pages_behind pages (change.Erases e) = slice_set pages e.head false

-- the store on another device, with this left of its job
abbrev pub behind_view : {D : Type 0} → StoreView D → Change → Serves → D → Option JobState → StoreView D
behind_view p x serves disk left =
    let b : Blobs = blobs_behind (blobs_in p) x in
    record p {
      disk = disk;
      metas = b.metas;
      marked = b.marked;
      chains = b.chains;
      live = b.live;
      pages = pages_behind p.pages x;
      clusters = all_set p.clusters (freed_by x) false;
      job = left;
      guards = guards_left b.guards serves left;
    }

pub left_seen : {D : Type 0} (p : StoreView D) (x : Change) (serves : Serves) (disk : D) (o : Option RunningJob)
    → record (behind_view p x serves disk (option_map job_seen o)) {
      guards = guards_left (blobs_behind (blobs_in p) x).guards serves o;
    } ≡ behind_view p x serves disk (option_map job_seen o)
left_seen p x serves disk o =
    ap (λ (g : GuardsState). record (behind_view p x serves disk (option_map job_seen o)) { guards = g })
    (guards_seen (blobs_behind (blobs_in p) x).guards serves o)

-- The chain that is written begins with the head; a blob that is erased isn't frozen.
abbrev pub IsWhole : (ℕ → Bool) → Change → Type 0
IsWhole frozen (change.Writes p) = p.chain ≡ p.head ∷ drop 1 p.chain
IsWhole frozen (change.Erases e) = frozen e.head ≡ false

module _ {D : Type 0} (d : Ghosts D) (p : StoreView D) (serves : Serves) (j : JobState)
    (freezes : j.freeze ≡ freeze_of serves) (rest : List Phase) (left : Option JobState)
    (left_is : left ≡ job_left serves rest) (disk : D) where
  abbrev s : StoreState
  s = state_of d p

  -- as the model says it
  abbrev pub behind_state : Change → List ℕ → StoreState
  behind_state x old = record (with_replaced s (replacing_for x old) (numbered_for x)) {
    live = with_live s.live (option_map live_seen (live_change (commit_of x)));
    job = left;
    frozen = frozen_behind s.frozen j rest;
    device = device_of d disk;
  }

  abbrev built : Change → Metas → Chains → Map Xattrs → Map ℕ → ℕ → (ℕ → Bool) → StoreState
  built x base chains live generations drawn frozen = record s {
    base = base;
    chains = chains;
    live = live;
    pages = pages_behind p.pages x;
    clusters = all_set p.clusters (freed_by x) false;
    generations = generations;
    drawn = drawn;
    frozen = frozen;
    job = left;
    device = device_of d disk;
  }

  -- with what is known of each part
  parts_behind : (x : Change) (base base_new : Metas) (chains chains_new : Chains) (live live_new : Map Xattrs)
      (guards : GuardsState) (generations : Map ℕ) (drawn : ℕ) → base ≡ base_new → chains ≡ chains_new
      → live ≡ live_new → map.get guards.generations ≡ generations → guards.drawn ≡ drawn
      → set.contains guards.frozen ≡ s.frozen
      → built x base chains live (map.get (guards_left guards serves left).generations)
      (guards_left guards serves left).drawn (set.contains (guards_left guards serves left).frozen)
      ≡ built x base_new chains_new live_new generations drawn (frozen_behind s.frozen j rest)
  parts_behind x base base_new chains chains_new live live_new guards generations drawn base_is chains_are live_is
      generations_are drawn_is frozen_is =
      let kept = guards_left guards serves left in
      ap (λ (b : Metas). built x b chains live (map.get kept.generations) kept.drawn (set.contains kept.frozen)) base_is
      ∙ ap (λ (h : Chains). built x base_new h live (map.get kept.generations) kept.drawn (set.contains kept.frozen))
      chains_are
      ∙ ap (λ (l : Map Xattrs).
      built x base_new chains_new l (map.get kept.generations) kept.drawn (set.contains kept.frozen)) live_is
      ∙ ap (λ (g : Map ℕ). built x base_new chains_new live_new g kept.drawn (set.contains kept.frozen))
      (ap (λ (m : map.FinMap nat_cmp ℕ). map.get m) (left_generations guards serves left) ∙ generations_are)
      ∙ ap (λ n. built x base_new chains_new live_new generations n (set.contains kept.frozen))
      (left_drawn guards serves left ∙ drawn_is)
      ∙ ap (λ (f : ℕ → Bool). built x base_new chains_new live_new generations drawn f)
      (frozen_left guards serves j freezes rest left left_is
      ∙ ap (λ (f : ℕ → Bool). frozen_behind f j rest) frozen_is)

  -- The state is the one with the replacement made, with this left of the job.
  pub state_behind : (x : Change) (old : List ℕ) → CanBeKept (blobs_in p) x
      → IsWhole (set.contains p.guards.frozen) x
      → state_of d (behind_view p x serves disk left) ≡ behind_state x old
  state_behind (change.Writes q) old can whole =
      let heads = numbered_in q.effects.commit (is_some q.effects.rooms.chain) q.head in
      let number = numbered_are p.guards heads in
      parts_behind (change.Writes q) _ (with_option s.base q.head (Some q.new)) _
      (with_option s.chains q.head (Some (q.head ∷ drop 1 q.chain))) _
      (with_live s.live (option_map live_seen (live_change q.effects.commit))) (with_numbers p.guards heads)
      (all_renewed s.generations s.drawn heads) (s.drawn + length heads)
      (base_behind (blobs_in p) (change.Writes q) can)
      (insert_given p.chains q.head q.chain ∙ ap (λ (l : List ℕ). with_option s.chains q.head (Some l)) whole)
      (live_given p.live (live_change q.effects.commit)) number.generations number.drawn number.frozen
  state_behind (change.Erases e) old can whole =
      let heads = numbered_in e.commit false e.head in
      let number = numbered_are (guard_removed p.guards e.head) heads in
      parts_behind (change.Erases e) _ (with_option s.base e.head None) _ (with_option s.chains e.head None) _
      (with_live s.live (option_map live_seen (live_change e.commit)))
      (with_numbers (guard_removed p.guards e.head) heads)
      (all_renewed (without_entry s.generations e.head) s.drawn heads) (s.drawn + length heads)
      (base_behind (blobs_in p) (change.Erases e) can) (remove_given p.chains e.head)
      (live_given p.live (live_change e.commit))
      (number.generations
      ∙ ap (λ (g : Map ℕ). all_renewed g s.drawn heads) (remove_given p.guards.generations e.head))
      number.drawn (number.frozen ∙ gone_thawed p.guards e.head whole)
    where
      -- one that isn't frozen isn't so without it either
      gone_thawed : (guards : GuardsState) (head : ℕ) → set.contains guards.frozen head ≡ false
          → set.contains (set.remove guards.frozen head) ≡ set.contains guards.frozen
      gone_thawed guards head thaws = fun_ext (λ k. elim (cases_eq k head) [
        | inl e ↦ removed_at k ∙ ap (λ b. not b && set.contains guards.frozen k) (is_key k head ∙ eq-eqb k head e)
            ∙ sym (ap (set.contains guards.frozen) e ∙ thaws)
        | inr ne ↦ removed_at k
            ∙ ap (λ b. not b && set.contains guards.frozen k) (is_key k head ∙ ne_eqb k head ne)
      ])
        where
          removed_at : (k : ℕ) → set.contains (set.remove guards.frozen head) k
              ≡ (not (eq_by_cmp nat_cmp k head) && set.contains guards.frozen k)
          removed_at k = set.contains-remove nat_cmp_total guards.frozen head k
