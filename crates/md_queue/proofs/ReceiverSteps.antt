-- The pops of the receiver keep the rule, and what it learns of the queue is so.
use Rattle.std.proofs.Common.{◌≡◌, ℕ, suc, ◌≤◌, true, true≢false, List, [], ◌∷◌, ◌++◌, length, set}
use Rattle.std.proofs.Common.{refl, sym, ap, ◌∙◌, arith, append_assoc, append-nil, length-append}
use Rattle.std.specs.Prelude.{slice_index_or}
use Rattle.std.proofs.Math.ListN.{get_or-eq_default}
use mathlib.Core.Option.{some}
use native.Mathlib.Decide.{dec_le}
use lib.ListN.{get_elem?}
use Rattle.crossbeam_queue.specs.Fifo.{Pops, Learns}
use Rattle.volume_model.specs.declared.reply.Msg.{Msg}
use Rattle.md_queue.specs.declared.ruled.rule.EndView.{EndView}
use Rattle.md_queue.specs.Delivery.{messages_on, receiver_view, Traffic, IsDone, KnowsGot, Knows, HoldsInOrder}
use Rattle.md_queue.specs.Delivery.{AccountsFor, AccountsForJoined, AccountsForAll, LeavesOne}
use Rattle.md_queue.proofs.EachPass.{each_set}
use Rattle.md_queue.proofs.MessageCounts.{count_is}

-- The message stands behind what the receiver got, whether it counts as taken or as left.
pops : (pass : ℕ) (view : EndView) (taken left : List Msg) (msg : Msg) (queue : List Msg) (views : List EndView)
    → view.is_receiver ≡ true → taken ++ left ≡ (view.taken ++ view.left) ++ msg ∷ []
    → HoldsInOrder (msg ∷ queue) views → get_elem? views pass ≡ some view
    → HoldsInOrder queue (set views pass (receiver_view taken left view.channels view.joined))
pops pass view taken left msg queue views is more kept at = record {
  traffic = next;
  in_order = λ k. ap (messages_on k) (append_assoc traffic.got (msg ∷ []) queue) ∙ kept.in_order k;
  known = each_set (Knows next) views pass (receiver_view taken left view.channels view.joined) (record {
    by_sender = λ never. absurd (true≢false (sym never));
    by_receiver = λ _. record {
      alone = mine.alone;
      got = more ∙ ap (λ list. list ++ msg ∷ []) mine.got;
      joined = λ k low. done_still k _ (mine.joined k low);
      others = λ k high. done_still k _ (mine.others k high);
      within = mine.within;
    };
  })
      (λ other its apart was. let known = kept.known other its was in record {
        by_sender = λ sends. let own = known.by_sender sends in record { alone = own.alone; sent = own.sent };
        by_receiver = λ takes. absurd (apart ((known.by_receiver takes).alone ∙ sym mine.alone));
      });
}
  where
    traffic : Traffic
    traffic = kept.traffic

    next : Traffic
    next = record traffic { got = traffic.got ++ msg ∷ [] }

    mine : KnowsGot traffic pass view
    mine = (kept.known pass view at).by_receiver is

    done_still : (k : ℕ) (whole : List Msg) → IsDone traffic k whole → IsDone next k whole
    done_still k whole done = record { no_writer = done.no_writer; whole = done.whole }

-- a pop by the receiver, where nothing is left yet
pub takes : (pass : ℕ) (view : EndView) → view.is_receiver ≡ true → view.left ≡ []
    → Pops HoldsInOrder pass view
    (λ msg after. after ≡ receiver_view (view.taken ++ msg ∷ []) [] view.channels view.joined)
takes pass view is none msg queue views kept at = (
  receiver_view (view.taken ++ msg ∷ []) [] view.channels view.joined,
  pops pass view (view.taken ++ msg ∷ []) [] msg queue views is more kept at,
  refl,
)
  where
    more : (view.taken ++ msg ∷ []) ++ [] ≡ (view.taken ++ view.left) ++ msg ∷ []
    more =
        append-nil (view.taken ++ msg ∷ [])
        ∙ ap (λ list. list ++ msg ∷ []) (sym (append-nil view.taken) ∙ ap (λ list. view.taken ++ list) (sym none))

module _ (pass : ℕ) (view : EndView) (is : view.is_receiver ≡ true) where
  -- what is known of a channel that sends no more
  accounts_for : (queue : List Msg) (views : List EndView) (kept : HoldsInOrder queue views) (k : ℕ)
      → get_elem? views pass ≡ some view → IsDone kept.traffic k (slice_index_or view.joined k [])
      → AccountsFor view queue k
  accounts_for queue views kept k at done =
      done.whole ∙ sym (kept.in_order k)
      ∙ ap (λ got. messages_on k (got ++ queue)) (sym ((kept.known pass view at).by_receiver is).got)

  -- what the receiver learns of a queue
  pub accounts_for_joined : Learns HoldsInOrder pass view (AccountsForJoined view)
  accounts_for_joined queue views kept at k low =
      accounts_for queue views kept k at (((kept.known pass view at).by_receiver is).joined k low)

  module _ (all : view.channels ≡ length view.joined) where
    -- what it learns once all senders were joined
    pub accounts_for_all : Learns HoldsInOrder pass view (AccountsForAll view)
    accounts_for_all queue views kept at = record {
      each = each;
      count = omega (
        arith,
        count_is ((view.taken ++ view.left) ++ queue) view.joined each,
        length-append (view.taken ++ view.left) queue,
        length-append view.taken view.left,
      );
    }
      where
        mine : KnowsGot kept.traffic pass view
        mine = (kept.known pass view at).by_receiver is

        by : (k : ℕ) → Dec (suc k ≤ length view.joined) → IsDone kept.traffic k (slice_index_or view.joined k [])
        by k (yes low) = mine.joined k low
        by k (no high) =
            let other = mine.others k (omega arith) in
            let none = get_or-eq_default view.joined [] {n = k} (omega arith) in
            record { no_writer = other.no_writer; whole = none ∙ other.whole }

        each : (k : ℕ) → AccountsFor view queue k
        each k = accounts_for queue views kept k at (by k (dec_le (suc k) (length view.joined)))

    -- a pop once all senders were joined
    pub leaves : Pops HoldsInOrder pass view (λ msg after. LeavesOne view msg after)
    leaves msg queue views kept at = (
      receiver_view view.taken (view.left ++ msg ∷ []) view.channels view.joined,
      pops pass view view.taken (view.left ++ msg ∷ []) msg queue views is
          (sym (append_assoc view.taken view.left (msg ∷ []))) kept at,
      record {
        behind = refl;
        fewer = let count = (accounts_for_all (msg ∷ queue) views kept at).count in omega arith;
      },
    )
