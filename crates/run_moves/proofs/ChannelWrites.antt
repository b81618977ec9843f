-- The turns of a write that finds its slot empty, and those by which a row waits.
use Rattle.std.proofs.Common.{◌≡◌, ℕ, zero, suc, ◌/◌, ◌<◌, ◌≤◌, Bool, ◌∷◌, length, Option}
use Rattle.std.proofs.Common.{Some, None, refl, sym, ap, ◌∙◌}
use Rattle.std.specs.Prelude.{map}
use Rattle.std.specs.Option.{option_map}
use Rattle.std.proofs.lemmas.Bool.{eq-eqb, le-ltb, lt-ltb, ne_eqb}
use Rattle.page_disk.specs.Disk.{Image}
use Rattle.super_block.specs.declared.page.Super.{Super}
use Rattle.super_block.specs.Numbers.{cluster_pages_of}
use Rattle.volume_model.specs.declared.command.Command.{Command}
use Rattle.volume_model.specs.declared.command.Command.TheVariants as c
use Rattle.store_model.specs.Cases.Claim.{Claims}
use Rattle.store_model.specs.Cases.Copy.{Copies, stage_left}
use Rattle.store_model.specs.Cases.FindEmpty.{FindsEmpty}
use Rattle.store_model.specs.Cases.FindFilled.{FindsFilled}
use Rattle.store_model.specs.Cases.LoseCopy.{LosesCopy}
use Rattle.store_model.specs.Cases.Post.{Posts}
use Rattle.store_model.specs.Cases.Send.{Sends}
use Rattle.store_model.specs.Claiming.{IsWriting, MeansSlot}
use Rattle.store_model.specs.Guarding.{AreGenerations}
use Rattle.store_model.specs.Rows.{IsForMetadata, OpenClaim, Row, Stage}
use Rattle.store_model.specs.Rows.{with_row}
use Rattle.store_model.specs.StoreState.{StoreState}
use Rattle.run_work.specs.Reading.{row_at, stage_of_copy}
use Rattle.run_work.specs.RunState.{AtClaiming, AtCopying, AtIdle, AtPosted, MetadataCommand, RowInRun}
use Rattle.run_work.specs.ChannelMoves.{asking, by_claim, by_copy, by_empty, by_end, by_filled, by_lose, by_post}
use Rattle.run_work.specs.ChannelMoves.{by_row}
use Rattle.run_work.specs.ChannelMoves.{by_send, by_settle, copied, for_write, moved_row}
use Rattle.run_work.specs.ChannelMoves.{PostsFrom, WritesInto}
use Rattle.run_moves.specs.ChannelTurns.{IsChannelMove, IsRowMove, WaitingTurns, with_sent, with_unsent, WritingTurns}
use Rattle.run_moves.specs.Projection.{claim_in_run, command_in_run, row_in_run, run_by, run_state_of, RunMessages}
use Rattle.run_moves.specs.Projection.{stage_in_run}
use Rattle.run_moves.proofs.BlobsMeant.{empty_there, filled_there, late_doomed, slot_within, unfilled_there}
use Rattle.run_moves.proofs.Moved.{changes_row}

-- a command for the metadata thread
pub asks : (s : Super) (command : Command) → IsForMetadata command → command_in_run s command ≡ MetadataCommand
asks s (c.Read volume page) for = absurd for
asks s (c.Write volume page word) for = absurd for
asks s c.Flush for = absurd for
asks s _ for = refl

-- a move of a row is one of its channel
pub row_moves : (p q : StoreState) (d e : RunMessages) (ch : ℕ) → IsRowMove p d ch q e → IsChannelMove p d ch q e
row_moves p q d e ch move = by_row move

module _ (p : StoreState) (d : RunMessages) (ch serial : ℕ) where
  -- the driver sends a message
  pub message_moves : d.unsent ch ≡ Some serial → length d.queue < 8 → IsChannelMove p d ch p (with_sent d ch serial)
  message_moves waits room = by_send (record {
    serial = serial;
    unsent = (with_sent d ch serial).unsent;
    waits = waits;
    sent = rw (eq-eqb ch ch refl) refl;
    others = λ k ne. rw (ne_eqb k ch ne) refl;
    room = room;
    next = refl;
  })

module _ (p q : StoreState) (d : RunMessages) where
  -- a turn that changes one row alone
  changed : (e : RunMessages) (ch : ℕ) (image : Image) (after : Row) (to : RowInRun) → row_in_run p.super after ≡ to
      → run_state_of q e ≡ run_by p.super image p.base p.generations p.live (with_row p.rows ch after) p.job p.frozen e
      → run_state_of q e ≡ moved_row (run_state_of p e) ch to
  changed e ch image after to is leaves = changes_row p q e ch image after to p.job p.frozen is leaves

  -- ---- a write

  writes_into : (stage : Stage) (claim : Option OpenClaim) (w : IsWriting p stage claim) (cluster : Option ℕ)
      (means : MeansSlot p w cluster)
      → WritesInto (run_state_of p d) w.channel means.head (w.page / cluster_pages_of p.super)
  writes_into stage claim w cluster means = record {
    volume = w.volume;
    commands = map (command_in_run p.super) w.rest;
    left = ap (λ (r : Row). map (command_in_run p.super) r.left) w.row;
    found = means.found;
    free = means.free;
  }

  finds_empty_moves : (t : FindsEmpty p q) → IsChannelMove p d t.write.channel q d
  finds_empty_moves t = by_empty (record {
    head = t.means.head;
    slot = t.write.page / cluster_pages_of p.super;
    write = writes_into _ _ t.write None t.means;
    stage = ap (λ (r : Row). stage_in_run r.stage) t.write.row;
    claim = ap (λ (r : Row). option_map claim_in_run r.claim) t.write.row;
    unfilled = unfilled_there p.base p.generations t.means.head (t.write.page / cluster_pages_of p.super) t.means.meta
        t.means.there t.means.is;
    next = changed d t.write.channel p.device.reads _ _
        (ap (λ (r : Row). row_at (row_in_run p.super r) AtClaiming) (sym t.write.row))
        (ap (λ v. run_state_of v d) t.next);
  })

  finds_filled_moves : AreGenerations p.base p.generations p.drawn → (t : FindsFilled p q)
      → IsChannelMove p d t.write.channel q d
  finds_filled_moves are t = by_filled (record {
    head = t.means.head;
    slot = t.write.page / cluster_pages_of p.super;
    write = writes_into _ _ t.write _ t.means;
    stage = ap (λ (r : Row). stage_in_run r.stage) t.write.row;
    claim = ap (λ (r : Row). option_map claim_in_run r.claim) t.write.row;
    filled = filled_there p.base p.generations p.drawn t.means.head (t.write.page / cluster_pages_of p.super) t.cluster
        t.means.meta are t.means.there t.means.is;
    next = changed d t.write.channel p.device.reads _ _
        (ap (λ (r : Row). row_at (row_in_run p.super r) AtIdle) (sym t.write.row)) (ap (λ v. run_state_of v d) t.next);
  })

  claims_move : 0 < cluster_pages_of p.super → (t : Claims p q) → IsRowMove p d t.write.channel q d
  claims_move some t =
      let place = t.write.page / cluster_pages_of p.super in
      let within = slot_within p t.means.head t.means.meta t.means.there some t.write.volume t.write.page t.write.word
      t.means.found t.asked in
      let there = empty_there p.base p.generations t.means.head place t.generation t.means.meta t.means.there t.means.is
      within t.drawn in
      by_claim (record {
        head = t.means.head;
        slot = place;
        claims = for_write (ap (λ (r : Row). stage_in_run r.stage) t.write.row)
            (writes_into _ _ t.write None t.means);
        claim = ap (λ (r : Row). option_map claim_in_run r.claim) t.write.row;
        blob = there.blob;
        there = there.there;
        empty = there.empty;
        next = changed d t.write.channel p.device.reads _ _
            (ap (λ (r : Row). record (row_in_run p.super r) {
              stage = AtCopying (cluster_pages_of p.super);
              claim = Some (record { head = t.means.head; slot = place; generation = t.generation });
            }) (sym t.write.row)
            ∙ ap (λ n. record (row_in_run p.super (p.rows t.write.channel)) {
              stage = AtCopying (cluster_pages_of p.super);
              claim = Some (record { head = t.means.head; slot = place; generation = n });
            }) (sym there.generation_is)) (ap (λ v. run_state_of v d) t.next);
      })

  stage_copied : (left : ℕ) → stage_in_run (stage_left left) ≡ stage_of_copy left
  stage_copied zero = refl
  stage_copied (suc n) = refl

  copies_move : (told : Bool) (t : Copies told p q) → IsRowMove p d t.copying.row q d
  copies_move told t = by_copy (record {
    held = claim_in_run t.copying.claim;
    left = t.left;
    claim = ap (λ (r : Row). option_map claim_in_run r.claim) t.copying.is;
    stage = ap (λ (r : Row). stage_in_run r.stage) t.copying.is;
    next = changed d t.copying.row t.device.reads _ _
        (ap (λ x. record {
          left = map (command_in_run p.super) t.copying.left;
          stage = x;
          claim = Some (claim_in_run t.copying.claim);
        }) (stage_copied t.left)
        ∙ ap (λ (r : Row). row_at (row_in_run p.super r) (stage_of_copy t.left)) (sym t.copying.is))
        (ap (λ v. run_state_of v d) t.next);
  })

  loses_copy_moves : (t : LosesCopy p q) → IsRowMove p d t.copying.row q d
  loses_copy_moves t = by_lose (record {
    held = claim_in_run t.copying.claim;
    left = t.left;
    claim = ap (λ (r : Row). option_map claim_in_run r.claim) t.copying.is;
    stage = ap (λ (r : Row). stage_in_run r.stage) t.copying.is;
    lost = late_doomed p.base p.generations (claim_in_run t.copying.claim) t.late;
    next = changed d t.copying.row p.device.reads _ _ refl (ap (λ v. run_state_of v d) t.next);
  })

  -- ---- posting

  message_there : (ch : ℕ) → ch < 16 → (with_unsent d ch p.serial).unsent ch ≡ Some p.serial
  message_there ch low = rw (eq-eqb ch ch refl, lt-ltb ch 16 low) refl

  no_message_there : (ch : ℕ) → 16 ≤ ch → (with_unsent d ch p.serial).unsent ch ≡ d.unsent ch
  no_message_there ch high = rw (eq-eqb ch ch refl, le-ltb ch 16 high) refl

  posted_moves : (ch : ℕ) (image : Image) (after : Row) → PostsFrom (run_state_of p d) ch
      → row_in_run p.super after ≡ row_at (row_in_run p.super (p.rows ch)) (AtPosted p.serial)
      → run_state_of q (with_unsent d ch p.serial)
      ≡ run_by p.super image p.base p.generations p.live (with_row p.rows ch after) p.job p.frozen
      (with_unsent d ch p.serial)
      → IsRowMove p d ch q (with_unsent d ch p.serial)
  posted_moves ch image after from is leaves = by_post (record {
    from = from;
    serial = p.serial;
    unsent = (with_unsent d ch p.serial).unsent;
    message = message_there ch;
    no_message = no_message_there ch;
    others = λ k ne. rw (ne_eqb k ch ne) refl;
    next = changed (with_unsent d ch p.serial) ch image after _ is leaves;
  })

  sends_move : (t : Sends p q) → IsRowMove p d t.copying.row q (with_unsent d t.copying.row p.serial)
  sends_move t = posted_moves t.copying.row t.device.reads _
      (copied (ap (λ (r : Row). stage_in_run r.stage) t.copying.is))
      (ap (λ (r : Row). row_at (row_in_run p.super r) (AtPosted p.serial)) (sym t.copying.is))
      (ap (λ v. run_state_of v (with_unsent d t.copying.row p.serial)) t.next)

  posts_move : (t : Posts p q) → IsRowMove p d t.channel q (with_unsent d t.channel p.serial)
  posts_move t = posted_moves t.channel p.device.reads _
      (asking (map (command_in_run p.super) t.rest)
      (ap (λ (r : Row). map (command_in_run p.super) r.left) t.row
      ∙ ap (λ x. x ∷ map (command_in_run p.super) t.rest) (asks p.super t.command t.is_meta))
      (ap (λ (r : Row). stage_in_run r.stage) t.row))
      (ap (λ (r : Row). row_at (row_in_run p.super r) (AtPosted p.serial)) (sym t.row))
      (ap (λ v. run_state_of v (with_unsent d t.channel p.serial)) t.next)

  -- those of a write
  pub writing_turns : WritingTurns p q d
  writing_turns = record {
    finds_empty = finds_empty_moves;
    finds_filled = finds_filled_moves;
    claims = claims_move;
    copies = copies_move;
    loses_copy = loses_copy_moves;
    sends = sends_move;
  }

  -- those by which a row waits
  pub waiting_turns : WaitingTurns p q d
  waiting_turns = record {
    posts = posts_move;
    settles = λ t. by_settle (record {
      stage = ap stage_in_run t.decided;
      next = changed d t.channel p.device.reads _ _ refl (ap (λ v. run_state_of v d) t.next);
    });
    ends = λ t. by_end (record {
      left = ap (λ (r : Row). map (command_in_run p.super) r.left) t.over;
      stage = ap (λ (r : Row). stage_in_run r.stage) t.over;
      next = changed d t.channel p.device.reads _ _ refl (ap (λ v. run_state_of v d) t.next);
    });
  }
