-- The steps of a sender keep the rule, and what it learns of a full queue is so.
use Rattle.std.proofs.Common.{◌≡◌, ◌≢◌, ℕ, ◌==◌, cond, Bool, true, false, true≢false, List, [], ◌∷◌, ◌++◌, Some, None}
use Rattle.std.proofs.Common.{refl, sym, ap, ◌∙◌, arith, append_assoc, append-nil}
use Rattle.std.proofs.lemmas.List.Elements.{filter-append}
use Rattle.crossbeam_queue.specs.Fifo.{Pushes, Learns}
use Rattle.volume_model.specs.declared.reply.Msg.{Msg}
use Rattle.md_queue.specs.declared.ruled.rule.EndView.{EndView}
use Rattle.md_queue.specs.Delivery.{messages_on, sender_view, Traffic, IsDone, Knows, HoldsInOrder, HoldsLastSent}
use Rattle.md_queue.proofs.EachPass.{each_set, put_at, put_here, put_elsewhere}

-- The messages of each channel are what that has sent, once one of them has sent one more.
sends_more : (sent : ℕ → List Msg) (channel : ℕ) (msg : Msg) (mine all : List Msg) → msg.channel ≡ channel
    → mine ≡ sent channel → ((k : ℕ) → messages_on k all ≡ sent k)
    → (k : ℕ) → messages_on k (all ++ msg ∷ []) ≡ put_at sent channel (mine ++ msg ∷ []) k
sends_more sent channel msg mine all own is was k =
    filter-append (λ (m : Msg). m.channel == k) all (msg ∷ [])
    ∙ ap (λ (c : ℕ). messages_on k all ++ cond (c == k) (msg ∷ []) []) own ∙ by (channel == k) refl
  where
    by : (b : Bool) → (channel == k) ≡ b
        → messages_on k all ++ cond b (msg ∷ []) [] ≡ cond b (mine ++ msg ∷ []) (sent k)
    by true at =
        let same : k ≡ channel = grind (arith, at) in
        ap (λ list. list ++ msg ∷ []) (was k ∙ ap sent same ∙ sym is)
    by false at = append-nil (messages_on k all) ∙ was k

-- What another pass knows is so still, once a sender of this channel has sent more.
module _ (traffic : Traffic) (pass channel : ℕ) (sent : List Msg) (here : traffic.writers channel ≡ Some pass) where
  abbrev later : Traffic
  later = record traffic { sent = put_at traffic.sent channel sent }

  done_still : (k : ℕ) (whole : List Msg) → IsDone traffic k whole → IsDone later k whole
  done_still k whole done = record {
    no_writer = done.no_writer;
    whole = done.whole ∙ sym (put_elsewhere traffic.sent channel sent k apart);
  }
    where
      apart : channel ≢ k
      apart same = let both : None ≡ Some pass = sym done.no_writer ∙ ap traffic.writers (sym same) ∙ here in cc

  knows_still : (other : ℕ) (view : EndView) → other ≢ pass → Knows traffic other view → Knows later other view
  knows_still other view apart known = record {
    by_sender = λ is. let its = known.by_sender is in record {
      alone = its.alone;
      sent = its.sent ∙ sym (put_elsewhere traffic.sent channel sent view.channel (elsewhere its.alone));
    };
    by_receiver = λ is. let its = known.by_receiver is in record {
      alone = its.alone;
      got = its.got;
      joined = λ k low. done_still k _ (its.joined k low);
      others = λ k high. done_still k _ (its.others k high);
      within = its.within;
    };
  }
    where
      elsewhere : traffic.writers view.channel ≡ Some other → channel ≢ view.channel
      elsewhere alone same =
          apart (let both : Some other ≡ Some pass = sym alone ∙ ap traffic.writers (sym same) ∙ here in cc)

-- a push by a sender
pub pushes : (room pass : ℕ) (view : EndView) (msg : Msg) → view.is_sender ≡ true → msg.channel ≡ view.channel
    → Pushes HoldsInOrder room pass view msg (λ after. after ≡ sender_view view.channel (view.sent ++ msg ∷ []))
pushes room pass view msg is own queue views free kept at =
    let traffic = kept.traffic in
    let mine = (kept.known pass view at).by_sender is in
    let sent = view.sent ++ msg ∷ [] in
    let next : Traffic = record traffic { sent = put_at traffic.sent view.channel sent } in (
      sender_view view.channel sent,
      record {
        traffic = next;
        in_order = λ k.
            ap (messages_on k) (sym (append_assoc traffic.got queue (msg ∷ [])))
            ∙ sends_more traffic.sent view.channel msg view.sent (traffic.got ++ queue) own mine.sent kept.in_order k;
        known = each_set (Knows next) views pass (sender_view view.channel sent) (record {
          by_sender = λ _. record {
            alone = mine.alone;
            sent = sym (put_here traffic.sent view.channel sent);
          };
          by_receiver = λ never. absurd (true≢false (sym never));
        })
            (λ other its apart was.
            knows_still traffic pass view.channel sent mine.alone other its apart (kept.known other its was));
      },
      refl,
    )

-- what a sender learns of a queue
pub holds_last : (pass : ℕ) (view : EndView) → view.is_sender ≡ true
    → Learns HoldsInOrder pass view (HoldsLastSent view.channel view.sent)
holds_last pass view is queue views kept at = (
  messages_on view.channel kept.traffic.got,
  sym (filter-append (λ (m : Msg). m.channel == view.channel) kept.traffic.got queue)
      ∙ kept.in_order view.channel ∙ sym ((kept.known pass view at).by_sender is).sent,
)
