-- The claim of the fill's row, for the slot that is to be filled next.
use Rattle.std.proofs.Common.{◌≡◌, ℕ, ◌<◌, true, List, [], ◌∷◌, Option, Some, None, length, refl, sym, ap, subst}
use Rattle.std.proofs.Common.{◌∙◌, arith, inl, inr}
use Rattle.std.specs.Prelude.{slice_set}
use Rattle.std.proofs.lemmas.Bool.{cases_eq, eq-eqb, ne_eqb}
use Rattle.std.proofs.Math.Path.{fun_ext}
use Rattle.bit_array.specs.Bits.{IsFull}
use Rattle.page_disk.specs.declared.disk.PageDisk.{Ghosts}
use Rattle.super_block.specs.Numbers.{cluster_pages_of}
use Rattle.volume_model.specs.Volumes.{head_of}
use Rattle.volume_model.specs.declared.command.Command.{Command}
use Rattle.volume_model.specs.declared.command.VolumeRef.{VolumeRef}
use Rattle.volume_model.specs.declared.reply.Reply.TheVariants as r
use Rattle.blob_meta.specs.ShownBy.{IsHeadMeant}
use Rattle.inflate_delete.specs.Fills.{command_of}
use Rattle.inflate_delete.specs.declared.filling.FillKind.{FillKind}
use Rattle.inflate_delete.specs.declared.filling.FillKind.TheVariants.{Inflate, Decouple}
use Rattle.store_model.specs.Cases as kind
use Rattle.store_model.specs.Cases.Halt.{MayLog, stage_after}
use Rattle.store_model.specs.Filling.{unused_row, AsksForFill, FillStands, HasToFill, StandsAt}
use Rattle.store_model.specs.Places.{without_claim}
use Rattle.store_model.specs.Rows.{Answered, Copying, Decided, Idle, Row, Rows, fill_row, with_row}
use Rattle.store_model.specs.Shown.{fixed_of}
use Rattle.store_model.specs.StoreState.{logged, shown, StoreState}
use Rattle.store_model.specs.Turning.{IsPosted}
use Rattle.running_store.specs.GivingBack.{fill_given_back}
use Rattle.running_store.specs.Steps.{Asks, IsPostedAt, logged_at, OnlyRow}
use Rattle.running_store.specs.RunningState.{IsRunning}
use Rattle.running_store.specs.StoreView.{AreResolved, device_of, rows_of, state_of, StoreView}
use Rattle.running_store.specs.TurnMade.{TurnMade}
use Rattle.running_store.proofs.Entered.{disk_same, entered}
use Rattle.running_store.proofs.GivenBack.{state_given_back}
use Rattle.running_store.proofs.Rowing.{low_left, only_row, rows_set}
use Rattle.running_store.proofs.Showing.{shows_metas}
use Rattle.channel_turns.specs.ClaimTurns.{HoldsLeast}
use Rattle.channel_turns.specs.FillTurns.{FillsOf, IsNextToFill}
use Rattle.channel_turns.proofs.FirstCommand.{IsFirstIn, IsLogged}

-- the command fills slots of one volume
same_volume : (k j : FillKind) (a b : VolumeRef) → command_of k a ≡ command_of j b → a ≡ b
same_volume Inflate Inflate a b is = cc is
same_volume Decouple Decouple a b is = cc is
same_volume Inflate Decouple a b is = absurd (cc is)
same_volume Decouple Inflate a b is = absurd (cc is)

-- a row that is as it was
row_still : (rows : Rows) (at : ℕ) (row : Row) → rows at ≡ row → with_row rows at row ≡ rows
row_still rows at row is = fun_ext (λ k. elim (cases_eq k at) [
  | inl e ↦ rw (eq-eqb k at e) (sym (ap rows e ∙ is))
  | inr ne ↦ rw (ne_eqb k at ne) refl
])

module _ {D : Type 0} (d : Ghosts D) (p : StoreView D) (channel : ℕ) (posted : IsPostedAt p channel)
    (seventeen : length p.rows ≡ 17) (unused : rows_of p.rows fill_row ≡ unused_row) where
  abbrev s : StoreState
  s = state_of d p

  abbrev command : Command
  command = posted.waits.command

  abbrev rest : List Command
  rest = posted.waits.rest

  abbrev is_posted : IsPosted s
  is_posted = record {
    channel = channel;
    serial = posted.serial;
    command = command;
    rest = rest;
    row = posted.waits.row;
  }

  pub left : (rows_of p.rows channel).left ≡ command ∷ rest
  left = ap (λ (x : Row). x.left) posted.waits.row

  low : channel < length p.rows
  low = low_left p.rows channel command rest left

  fill_low : fill_row < length p.rows
  fill_low = omega (arith, seventeen)

  -- the slot is the next one to be filled for the command
  module _ (slot : ℕ) (to_fill : Asks p channel (λ k. IsNextToFill s k slot)) (running : IsRunning s)
      (runs : p.stopped ≡ None) (no_job : p.job ≡ None) (are : AreResolved p.metas p.marked) where
    abbrev next : IsNextToFill s command slot
    next = to_fill command rest left

    abbrev has : HasToFill s
    has = record {
      posted = is_posted;
      runs = runs;
      no_job = no_job;
      unused = unused;
      asks = next.asks;
      asked = next.asked;
      head = next.head;
      found = next.found;
      slot = slot;
      least = next.least;
    }

    claimed_there : (q : StoreView D) → HoldsLeast p q fill_row next.head slot
        → TurnMade d p (record q { filling = Some channel }) kind.claims_fill
    claimed_there q h =
        let given : Row = record {
          left = [];
          stage = Copying (cluster_pages_of p.super);
          claim = Some (record {
            cluster = h.cluster;
            head = next.head;
            slot = slot;
            generation = h.generation;
          });
        } in (
          record {
            fill = has;
            cluster = h.cluster;
            least = h.least;
            generation = h.generation;
            drawn = h.drawn;
            next =
                ap (λ (v : StoreView D). state_of d (record v { filling = Some channel })) h.next
                ∙ ap (λ (x : Row). record s {
                  rows = rows_of (slice_set p.rows fill_row (record x { stage = given.stage; claim = given.claim }));
                  clusters = slice_set p.clusters h.cluster true;
                  filling = Some channel;
                }) unused
                ∙ ap (λ (rows : Rows). record s {
                  rows = rows;
                  clusters = slice_set p.clusters h.cluster true;
                  filling = Some channel;
                }) (rows_set p.rows fill_row given fill_low);
          },
          ap (λ (v : StoreView D). v.disk) h.next,
        )

    -- no cluster is clear
    pub fill_lacks : IsFull p.clusters → (mid : StoreView D) → mid ≡ p → (q : StoreView D)
        → IsLogged (Decided Answered) d mid channel r.Full q → TurnMade d p q kind.lacks_for_fill
    fill_lacks full mid same q logged =
        let is = subst (λ (v : StoreView D). IsLogged (Decided Answered) d v channel r.Full q) same logged command rest
        left in (
          record { fill = has; full = full; next = entered d p q channel command rest r.Full low is },
          disk_same d p q channel command rest r.Full low is,
        )

    -- the command is found in rows that are the store's
    module _ (seen : List Row) (same : seen ≡ p.rows) (found : Command) (first : IsFirstIn seen channel found) where
      found_is : found ≡ command
      found_is = first command rest (ap (λ (l : List Row). (rows_of l channel).left) same ∙ left)

      -- what is found asks for a fill
      pub asks_for_fill : AsksForFill found
      asks_for_fill = subst AsksForFill (sym found_is) next.asks

      -- its blob is found
      module _ (volume : VolumeRef) (fills : FillsOf found volume) (head : Option ℕ)
          (meant : IsHeadMeant p.metas p.super volume head) where
        pub found_so : head ≡ Some next.head
        found_so =
            sym (meant (fixed_of p.super) (shown s) (shows_metas s running runs p.metas are.resolves))
            ∙ ap (head_of (fixed_of p.super) (shown s))
            (same_volume fills.kind next.asks.kind volume next.asks.volume (sym fills.is ∙ found_is ∙ next.asks.is))
            ∙ next.found

        one_head : (h : ℕ) → head ≡ Some h → h ≡ next.head
        one_head h is = let both : Some h ≡ Some next.head = sym is ∙ found_so in cc both

        -- the least clear cluster is claimed for it
        pub fill_claimed : (h : ℕ) → head ≡ Some h → (q : StoreView D) → HoldsLeast p q fill_row h slot
            → TurnMade d p (record q { filling = Some channel }) kind.claims_fill
        fill_claimed h is q holds =
            claimed_there q (subst (λ n. HoldsLeast p q fill_row n slot) (one_head h is) holds)

  -- on a stopped store nothing but the entry changes: the fill's row has no claim, and works for none
  module _ (fill : FillStands s) where
    none : p.filling ≡ None
    none = by p.filling refl
      where
        by : (o : Option ℕ) → p.filling ≡ o → p.filling ≡ None
        by None is = is
        by (Some n) is = absurd (subst (λ (x : Row). StandsAt (Some n) x.stage) unused
            (subst (λ (o : Option ℕ). StandsAt o (rows_of p.rows fill_row).stage) is fill.stage))

    -- the state with the claim of this row given back
    abbrev without : Row → StoreState
    without row = record s {
      rows = with_row s.rows fill_row (record { left = row.left; stage = stage_after row.stage; claim = None });
      clusters = without_claim s.clusters row.claim;
      filling = None;
    }

    still : s ≡ without (s.rows fill_row)
    still =
        ap (λ (o : Option ℕ). record s { filling = o }) none
        ∙ ap (λ (rows : Rows). record s { rows = rows; filling = None })
        (sym (row_still s.rows fill_row unused_row unused))
        ∙ ap without (sym unused)

    pub fill_halted : AsksForFill command → (at : ℕ) → p.stopped ≡ Some at → (q : StoreView D)
        → q ≡ logged_at p channel command rest (r.Stopped at) (d.clock q.disk) → TurnMade d p q kind.halts_fill
    fill_halted asks at stands q is = (
      record {
        posted = is_posted;
        asks = asks;
        works = inl unused;
        may = subst (λ (x : Row). MayLog x.stage) (sym unused) tt;
        at = at;
        stands = stands;
        next = entered d p q channel command rest (r.Stopped at) low is
            ∙ ap (λ (a : StoreState). logged a channel command rest (r.Stopped at) (device_of d p.disk)) still;
      },
      disk_same d p q channel command rest (r.Stopped at) low is,
    )

-- ---- its end

pub fill_ended : {D : Type 0} (d : Ghosts D) (p : StoreView D) → length p.rows ≡ 17 → p.job ≡ None → (q : StoreView D)
    → q ≡ fill_given_back p Idle → TurnMade d p q kind.ends_fill
fill_ended {D = D} d p seventeen no_job q is = (
  record {
    no_job = no_job;
    next = ap (state_of d) is
        ∙ ap (λ (a : StoreState). record a { filling = None })
        (state_given_back d p fill_row (omega (arith, seventeen)) Idle);
  },
  ap (λ (v : StoreView D). v.disk) is,
)

pub fill_row_ended : {D : Type 0} (p q : StoreView D) → length p.rows ≡ 17 → q ≡ fill_given_back p Idle
    → OnlyRow p.rows q.rows fill_row (record (rows_of p.rows fill_row) { stage = Idle; claim = None })
fill_row_ended {D = D} p q seventeen is =
    let given : Row = record (rows_of p.rows fill_row) { stage = Idle; claim = None } in
    subst (λ (rows : List Row). OnlyRow p.rows rows fill_row given) (sym (ap (λ (v : StoreView D). v.rows) is))
    (only_row p.rows fill_row given (omega (arith, seventeen)))
