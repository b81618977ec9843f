-- Each turn by which a fill goes on is a move of the metadata thread, on the row of its own; so is that row's last.
use Rattle.std.proofs.Common.{◌≡◌, ℕ, ◌<◌, Bool, true, false, length, Option, Some, None, refl, sym, ap, ◌∙◌, subst}
use Rattle.std.proofs.Common.{arith}
use Rattle.std.specs.Prelude.{◌==◌, ◌&&◌, if◌then◌else◌, is_none, map, nat_lt}
use Rattle.std.specs.Option.{option_map_or}
use Rattle.std.proofs.Math.Path.{fun_ext}
use Rattle.std.proofs.lemmas.Bool.{and_parts, ltb-true}
use Rattle.super_block.specs.Numbers.{cluster_pages_of}
use Rattle.volume_model.specs.declared.reply.Msg.{Msg}
use Rattle.blob_meta.specs.declared.meta.Meta.{Meta}
use Rattle.blob_meta.specs.Parents.{slot}
use Rattle.blob_meta.specs.Resolving.{resolved}
use Rattle.inflate_delete.specs.Fills.{is_empty_slot, is_to_fill, is_to_fill_over, parent_blob}
use Rattle.inflate_delete.specs.declared.filling.FillKind.{FillKind}
use Rattle.inflate_delete.specs.declared.filling.FillKind.TheVariants.{Inflate, Decouple}
use Rattle.store_model.specs.Cases.ClaimFill.{ClaimsFill}
use Rattle.store_model.specs.Cases.EndFill.{EndsFill}
use Rattle.store_model.specs.Filling.{FillStands}
use Rattle.store_model.specs.Maps.{Metas}
use Rattle.store_model.specs.Rows.{fill_row, Row}
use Rattle.store_model.specs.StoreState.{StoreState}
use Rattle.run_work.specs.ChannelMoves.{by_claim, for_fill}
use Rattle.run_work.specs.Reading.{logged_row, is_in_use}
use Rattle.run_work.specs.RunState.{AtCopying, AtIdle}
use Rattle.run_work.specs.ServingMoves.{the_own}
use Rattle.run_work.specs.Steps.{by_begin_insert, by_close, by_lose_insert, by_own_row, CloseStep, FillStep}
use Rattle.run_moves.specs.ChannelTurns.{IsRowMove, with_unsent}
use Rattle.run_moves.specs.FillTurns as turn
use Rattle.run_moves.specs.FillTurns.{FillTurn}
use Rattle.run_moves.specs.Projection.{command_in_run, row_in_run, run_state_of, RunMessages, stage_in_run}
use Rattle.run_moves.specs.ServingTurns.{IsMeasured, ServesRow}
use Rattle.run_moves.specs.Sizes.{sizes_of}
use Rattle.run_moves.proofs.Beginning.{begins_insert_so, loses_insert_so}
use Rattle.run_moves.proofs.BlobsMeant.{empty_there}
use Rattle.run_moves.proofs.ChannelWrites.{waiting_turns, writing_turns}
use Rattle.run_moves.proofs.MetadataSteps.{MovesIn}
use Rattle.run_moves.proofs.Moved.{changes_row}

-- ---- the slot that is filled next

-- it is there and empty, in a blob that is there
record IsEmptyIn (metas : Metas) (head at : ℕ) : Type 0 where
  pub meta : Meta
  pub there : metas head ≡ Some meta
  pub within : at < length meta.map
  pub empty : slot meta at ≡ None

over_empty : (kind : FillKind) (m : Meta) (parent : Option Meta) (at : ℕ) → is_to_fill_over kind m parent at ≡ true
    → is_empty_slot m at ≡ true
over_empty Inflate m parent at is = is
over_empty Decouple m parent at is = (and_parts (is_empty_slot m at) _ is).0

none_there : (o : Option ℕ) → is_none o ≡ true → o ≡ None
none_there None is = refl
none_there (Some cluster) is = absurd (cc is)

empty_in : (metas : Metas) (head at : ℕ) (kind : FillKind) → is_to_fill metas head kind at ≡ true
    → IsEmptyIn metas head at
empty_in metas head at kind = by (metas head) refl
  where
    by : (o : Option Meta) → metas head ≡ o
        → option_map_or (λ m. is_to_fill_over kind m (parent_blob metas m) at) o false ≡ true
        → IsEmptyIn metas head at
    by None none is = absurd (cc is)
    by (Some m) there is =
        let parts = and_parts (nat_lt at (length m.map)) (is_none (slot m at))
        (over_empty kind m (parent_blob metas m) at is) in
        record {
          meta = m;
          there = there;
          within = ltb-true at (length m.map) parts.0;
          empty = none_there (slot m at) parts.1;
        }

-- ---- the own row

-- the metadata thread sends itself no message
none_sent : (d : RunMessages) (serial : ℕ) → with_unsent d fill_row serial ≡ d
none_sent d serial = ap (λ u. record d { unsent = u }) (fun_ext (λ k. go (k == fill_row) (d.unsent k)))
  where
    go : (b : Bool) (o : Option ℕ) → (if b && nat_lt fill_row 16 then Some serial else o) ≡ o
    go true o = refl
    go false o = refl

module _ (p q : StoreState) (d : RunMessages) (message : Msg) (fill : d.fill ≡ Some message) where
  abbrev Moves : Type 0
  Moves = MovesIn (sizes_of p.super) (run_state_of p d) (run_state_of q d) FillStep

  on_row : (row : ℕ) → row ≡ fill_row → IsRowMove p d row q d → Moves
  on_row row is move = record {
    move = by_own_row message fill (subst (λ n. IsRowMove p d n q d) is move);
    due = refl;
  }

  claims_moves : (t : ClaimsFill p q) → IsRowMove p d fill_row q d
  claims_moves t =
      let to = empty_in (resolved p.base) t.fill.head t.fill.slot t.fill.asks.kind t.fill.least.passes in
      let there = empty_there p.base p.generations t.fill.head t.fill.slot t.generation to.meta to.there to.empty
      to.within t.drawn in
      by_claim (record {
        head = t.fill.head;
        slot = t.fill.slot;
        claims = for_fill refl (ap (λ (r : Row). stage_in_run r.stage) t.fill.unused);
        claim = ap (λ (r : Row). (row_in_run p.super r).claim) t.fill.unused;
        blob = there.blob;
        there = there.there;
        empty = there.empty;
        next = changes_row p q d fill_row p.device.reads _ _ p.job p.frozen
            (ap (λ (r : Row). record (row_in_run p.super r) {
              stage = AtCopying (cluster_pages_of p.super);
              claim = Some (record { head = t.fill.head; slot = t.fill.slot; generation = t.generation });
            }) (sym t.fill.unused)
            ∙ ap (λ n. record (row_in_run p.super (p.rows fill_row)) {
              stage = AtCopying (cluster_pages_of p.super);
              claim = Some (record { head = t.fill.head; slot = t.fill.slot; generation = n });
            }) (sym there.generation_is)) (ap (λ v. run_state_of v d) t.next);
      })

  abbrev served : (row : ℕ) → row ≡ fill_row → ServesRow p q d d.held d.waiting row
  served row is = the_own is refl refl

  row_low : (row : ℕ) → row ≡ fill_row → row < 17
  row_low row is = omega (arith, is)

  -- a turn by which it goes on
  pub going_moves : (told : Bool) → (p.stopped ≡ None → IsMeasured p) → FillTurn told p q message.channel → Moves
  going_moves told measured (turn.claims_fill t is) = on_row fill_row refl (claims_moves t)
  going_moves told measured (turn.copies t is) = on_row t.copying.row is ((writing_turns p q d).copies told t)
  going_moves told measured (turn.loses_copy t is) = on_row t.copying.row is ((writing_turns p q d).loses_copy t)
  going_moves told measured (turn.sends t is) = on_row fill_row refl
      (subst (λ e. IsRowMove p d fill_row q e) (none_sent d p.serial)
      (subst (λ n. IsRowMove p d n q (with_unsent d n p.serial)) is ((writing_turns p q d).sends t)))
  going_moves told measured (turn.begins_insert t is) =
      let x = begins_insert_so p q d d.held d.waiting (measured t.runs) t (served t.posted.row is) in
      record { move = by_begin_insert t.posted.row (row_low t.posted.row is) x.0; due = x.1 }
  going_moves told measured (turn.loses_insert t is) =
      let x = loses_insert_so p q d d.held d.waiting t (served t.posted.row is) in
      record { move = by_lose_insert t.posted.row (row_low t.posted.row is) x.0; due = x.1 }
  going_moves told measured (turn.settles t is) = on_row t.channel is ((waiting_turns p q d).settles t)

-- ---- without a fill

-- the metadata thread ends the use of its own row
pub closing_moves : (p q : StoreState) (d : RunMessages) → FillStands p → (run_state_of p d).job ≡ None
    → d.fill ≡ None → is_in_use (stage_in_run (p.rows fill_row).stage) ≡ true → EndsFill p q
    → MovesIn (sizes_of p.super) (run_state_of p d) (run_state_of q d) CloseStep
closing_moves p q d stands no_job none used t = record {
  due = refl;
  move = by_close (record {
    none = none;
    used = used;
    idle = no_job;
    none_left = ap (map (command_in_run p.super)) stands.left;
    next = changes_row p q d fill_row p.device.reads _ _ p.job p.frozen
        (ap (λ l. logged_row (map (command_in_run p.super) l) AtIdle) stands.left) (ap (λ v. run_state_of v d) t.next);
  });
}
