-- What a channel's claim comes to, by what was found of its blob.
use Rattle.std.proofs.lemmas.Bool.{eq-eqb}
use Rattle.pools.specs.Pool.{claimed, claims_without, kept, PoolState}
use Rattle.std.proofs.Common.{◌≡◌, ℕ, ◌/◌, ◌^◌, ◌<◌, [], ◌∷◌, Bool, true, false, List, Option, Some, None, length}
use Rattle.std.proofs.Common.{refl, sym, ap, subst, ◌∙◌, inl, inr}
use Rattle.std.specs.Prelude.{is_some, IfSome, IsSome, slice_set}
use Rattle.std.specs.Option.{option_map_or}
use Rattle.std.specs.FinMap as map
use Rattle.std.specs.FinSet as set
use Rattle.bit_array.specs.Bits.{IsFull, IsLeastClear}
use Rattle.page_disk.specs.declared.disk.PageDisk.{Ghosts}
use Rattle.super_block.specs.Numbers.{cluster_pages_of}
use Rattle.volume_model.specs.Refusals.{refusal}
use Rattle.volume_model.specs.declared.command.Command.{Command}
use Rattle.volume_model.specs.declared.command.Command.TheVariants as c
use Rattle.volume_model.specs.declared.reply.Reply.{Reply}
use Rattle.volume_model.specs.declared.reply.Reply.TheVariants as r
use Rattle.blob_meta.specs.declared.meta.Meta.{Meta}
use Rattle.blob_meta.specs.Pages.{IsFirstOnPages, IsPageCause}
use Rattle.blob_meta.specs.Parents.{slot as in_slot}
use Rattle.blob_meta.specs.Resolving.{resolved}
use Rattle.blob_meta.specs.ShownBy.{IsHeadMeant}
use Rattle.store_model.specs.Cases as kind
use Rattle.store_model.specs.Claiming.{MeansSlot}
use Rattle.store_model.specs.Rows.{Claiming, Copying, Idle, OpenClaim, Row, Rows, with_row}
use Rattle.store_model.specs.Shown.{fixed_of}
use Rattle.store_model.specs.Maps.{Metas}
use Rattle.store_model.specs.StoreState.{shown, StoreState}
use Rattle.store_model.specs.Turning.{IsNotFrozen}
use Rattle.running_store.specs.TurnMade.{TurnMade, TurnsAs}
use Rattle.channel_turns.specs.ChannelTurns.{WaitsToWrite}
use Rattle.channel_turns.specs.ClaimTurns.{ClaimsNow, IsOfClaim, writing_state}
use Rattle.running_store.specs.RunningState.{IsRunning}
use Rattle.running_store.specs.StoreView.{AreResolved, rows_of, state_of, StoreView}
use Rattle.running_store.specs.Steps.{OnlyRow, with_row_at}
use Rattle.running_store.proofs.Entered.{disk_same_then, entered_then}
use Rattle.store_model.proofs.Resolved.{resolved_of}
use Rattle.running_store.proofs.Rowing.{only_row, rows_set, state_with_row}
use Rattle.channel_turns.proofs.WriteMeant.{free, has_empty, has_place, HasEmpty, HasPlace, means_at, page_cause}
use Rattle.channel_turns.proofs.WriteMeant.{place_by}
use Rattle.channel_turns.proofs.WriteMeant.{refused_so, slot_low, unfilled}
use Rattle.channel_turns.proofs.FirstCommand.{IsLogged}

module _ {D : Type 0} (d : Ghosts D) (p : StoreView D) (channel : ℕ) (running : IsRunning (state_of d p))
    (runs : p.stopped ≡ None) (are : AreResolved p.metas p.marked) (w : WaitsToWrite p channel Claiming)
    (head : Option ℕ)
    (meant : IsHeadMeant p.metas p.super w.volume head)
    (thawed : option_map_or (set.contains p.guards.frozen) head false ≡ false) where
  abbrev s : StoreState
  s = state_of d p

  abbrev k : ℕ
  k = cluster_pages_of p.super

  abbrev command : Command
  command = c.Write w.volume w.page w.word

  -- the slot has a cluster by now
  pub found_filled : (place : ℕ) → place_by (map.get p.metas) k w.page head ≡ Some place → channel < length p.rows
      → (row : Row) → row ≡ record (rows_of p.rows channel) { stage = Idle }
      → TurnMade d p (with_row_at p channel row) kind.finds_filled
  found_filled place found low row is =
      let x : HasPlace (map.get p.metas) k head w.page place =
      has_place (map.get p.metas) k w.page place head found in (
        record {
          write = writing_state d p channel Claiming w;
          runs = runs;
          cluster = x.cluster;
          means = means_at d p channel Claiming running runs are w head meant thawed x.at x.head_is x.meta x.there
              (Some x.cluster) x.in_slot;
          next = state_with_row d p channel row (record { left = command ∷ w.rest; stage = Idle; claim = None })
              (is ∙ ap (λ (r : Row). record r { stage = Idle }) w.row) low;
        },
        refl,
      )

  module _ (none : place_by (map.get p.metas) k w.page head ≡ None) where
    -- by now it is refused
    pub claim_refused : (reply : Reply) → IsPageCause reply → IsFirstOnPages p.metas p.super command (Some reply)
        → channel < length p.rows → (q : StoreView D)
        → IsLogged Idle d p channel reply q
        → TurnsAs d IsOfClaim p q
    claim_refused reply caused first low q logged =
        let is = logged command w.rest (ap (λ (x : Row). x.left) w.row) in
        record {
          kind = kind.refuses_claim;
          is = tt;
          made = (
            record {
              write = writing_state d p channel Claiming w;
              runs = runs;
              free = free d p channel Claiming running runs are w head meant thawed;
              unfilled = unfilled d p channel Claiming running runs are w head meant thawed none;
              reply = reply;
              why = inl (
                page_cause reply caused,
                refused_so d p channel Claiming running runs are w head meant (Some reply) first,
              );
              next = entered_then Idle d p q channel command w.rest reply low is;
            },
            disk_same_then Idle d p q channel command w.rest reply low is,
          );
        }

    -- a cluster is to be claimed for it
    module _ (first : Option Reply) (is_first : IsFirstOnPages p.metas p.super command first)
        (passes : first ≡ None) (h : ℕ) (is : head ≡ Some h)
        (there : IfSome head (λ h. IsSome (map.get p.metas h))) where
      asked : refusal (fixed_of p.super) (shown s) command ≡ None
      asked = refused_so d p channel Claiming running runs are w head meant first is_first ∙ passes

      abbrev x : HasEmpty (map.get p.metas) k h w.page
      x = has_empty (map.get p.metas) k h w.page
          (subst (λ (o : Option ℕ). IfSome o (λ h. IsSome (map.get p.metas h))) is there)
          (sym (ap (place_by (map.get p.metas) k w.page) is) ∙ none)

      pub slot_fits : w.page / k < 2 ^ 32
      slot_fits = slot_low d p channel Claiming running runs are w head meant h is x.meta x.there asked

      generation : (o : Option ℕ) → map.get p.guards.generations h ≡ o → is_some o ≡ true
          → (number : ℕ) × (map.get p.guards.generations h ≡ Some number)
      generation None at some = absurd (cc some)
      generation (Some number) at some = (number, at)

      pub claims_now : (slot : ℕ) → slot ≡ w.page / k → ClaimsNow d p channel h slot
      claims_now slot slot_is =
          let each = (running.facts.well runs).generations.each h in
          let before = resolved_of s.base h x.meta (ap (λ (b : Metas). b h) are.resolves ∙ x.there) in
          let number = generation (map.get p.guards.generations h) refl (each ∙ ap is_some before.there) in
          record {
            waits = w;
            runs = runs;
            asked = asked;
            means = means_at d p channel Claiming running runs are w head meant thawed h is x.meta x.there None x.empty;
            head_is = refl;
            slot_is = sym slot_is;
            generation = number.0;
            drawn = number.1;
          }

-- ---- the claim itself

-- a claim that is kept at once isn't open any more
pub none_open : (old mid new : PoolState) (at : ℕ) → old.claims ≡ [] → mid ≡ claimed old at → new ≡ kept mid at
    → new.claims ≡ []
none_open old mid new at none claims keeps =
    ap (λ (s : PoolState). s.claims) keeps
    ∙ ap (λ (s : PoolState). claims_without s.claims at) claims
    ∙ ap (λ (l : List ℕ). claims_without (at ∷ l) at) none
    ∙ rw (eq-eqb at at refl) refl

-- the row that holds the claim
pub claimed_row : (old : List Row) (channel : ℕ) (row : Row) (pages k : ℕ) (claim : Option OpenClaim)
    → channel < length old → row ≡ record (rows_of old channel) { stage = Copying pages; claim = claim } → pages ≡ k
    → OnlyRow old (slice_set old channel row) channel (record (rows_of old channel) {
      stage = Copying k;
      claim = (rows_of (slice_set old channel row) channel).claim;
    })
claimed_row old channel row pages k claim low is pages_is =
    let only = only_row old channel row low in
    let left = ap (λ (r : Row). r.left) (only.row ∙ is) in
    let stage = ap (λ (r : Row). r.stage) (only.row ∙ is) ∙ ap Copying pages_is in
    record {
      row = λ i. record {
        left = left i;
        stage = stage i;
        claim = (rows_of (slice_set old channel row) channel).claim;
      };
      others = only.others;
    }

module _ {D : Type 0} (d : Ghosts D) (p : StoreView D) (channel head slot : ℕ) (x : ClaimsNow d p channel head slot)
    (low : channel < length p.rows) where
  abbrev now : StoreState
  now = state_of d p

  abbrev w : WaitsToWrite p channel Claiming
  w = x.waits

  abbrev asking : Command
  asking = c.Write w.volume w.page w.word

  -- the blob that it means isn't frozen
  not_frozen : IsNotFrozen now w.volume
  not_frozen h found =
      let both : Some x.means.head ≡ Some h = sym x.means.found ∙ found in
      let e : x.means.head ≡ h = cc both in
      subst (λ n. now.frozen n ≡ false) e x.means.free

  -- the slot is empty
  not_filled : (cluster : ℕ) → MeansSlot now (writing_state d p channel Claiming w) (Some cluster) → ⊥
  not_filled cluster m =
      let both : Some x.means.head ≡ Some m.head = sym x.means.found ∙ m.found in
      let e : x.means.head ≡ m.head = cc both in
      let metas : Some x.means.meta ≡ Some m.meta = sym x.means.there ∙ ap (resolved now.base) e ∙ m.there in
      let same : x.means.meta ≡ m.meta = cc metas in
      let bad : Some cluster ≡ None =
      sym m.is ∙ ap (λ (meta : Meta). in_slot meta (w.page / cluster_pages_of p.super)) (sym same) ∙ x.means.is in
      cc bad

  -- no cluster is clear
  pub claim_full : IsFull p.clusters → (q : StoreView D)
      → IsLogged Idle d p channel r.Full q
      → TurnsAs d IsOfClaim p q
  claim_full full q logged =
      let is = logged asking w.rest (ap (λ (x : Row). x.left) w.row) in
      record {
        kind = kind.refuses_claim;
        is = tt;
        made = (
          record {
            write = writing_state d p channel Claiming w;
            runs = x.runs;
            free = not_frozen;
            unfilled = not_filled;
            reply = r.Full;
            why = inr (refl, x.asked, full);
            next = entered_then Idle d p q channel asking w.rest r.Full low is;
          },
          disk_same_then Idle d p q channel asking w.rest r.Full low is,
        );
      }

  -- the least clear one is claimed
  pub claim_made : (cluster : ℕ) → IsLeastClear p.clusters cluster → (generation : ℕ)
      → map.get p.guards.generations head ≡ Some generation → (pages : ℕ) → pages ≡ cluster_pages_of p.super
      → (row : Row) → row ≡ record (rows_of p.rows channel) {
        stage = Copying pages;
        claim = Some (record { cluster = cluster; head = head; slot = slot; generation = generation });
      } → (bits : List Bool) → bits ≡ slice_set p.clusters cluster true
      → TurnMade d p (record (with_row_at p channel row) { clusters = bits }) kind.claims
  claim_made cluster least generation drawn pages pages_is row is bits bits_is =
      let claim : OpenClaim = record {
        cluster = cluster;
        head = x.means.head;
        slot = w.page / cluster_pages_of p.super;
        generation = generation;
      } in
      let given : Row = record {
        left = asking ∷ w.rest;
        stage = Copying (cluster_pages_of p.super);
        claim = Some claim;
      } in
      let head_is = sym x.head_is in
      let slot_is = sym x.slot_is in
      let here : row ≡ given = is ∙ (λ i. record {
        left = (w.row i).left;
        stage = Copying (pages_is i);
        claim = Some (record { cluster = cluster; head = head_is i; slot = slot_is i; generation = generation });
      }) in (
        record {
          write = writing_state d p channel Claiming w;
          runs = x.runs;
          asked = x.asked;
          means = x.means;
          cluster = cluster;
          least = least;
          generation = generation;
          drawn = ap (map.get p.guards.generations) x.head_is ∙ drawn;
          next =
              ap (λ (r : Row). state_of d (record (with_row_at p channel r) { clusters = bits })) here
              ∙ ap (λ (rows : Rows). record now { rows = rows; clusters = bits }) (rows_set p.rows channel given low)
              ∙ ap (λ (b : List Bool). record now { rows = with_row (rows_of p.rows) channel given; clusters = b })
              bits_is;
        },
        refl,
      )
