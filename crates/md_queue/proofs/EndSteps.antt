-- Where the first end begins, a sender is made or joined, the rule is kept.
use Rattle.std.proofs.Common.{◌≡◌, ◌≢◌, ⊎_elim, ℕ, zero, suc, ◌+◌, ◌<◌, ◌≤◌, true, true≢false}
use Rattle.std.proofs.Common.{List, [], ◌∷◌, ◌++◌, length, set, Some, None, refl, sym, ap, ◌∙◌, subst, arith}
use Rattle.std.proofs.Common.{length-append}
use Rattle.std.specs.Prelude.{slice_index_or}
use Rattle.std.proofs.Math.ListN.{get_or-append}
use Rattle.std.proofs.Math.Seq.{get_or-append_seam}
use mathlib.Core.Option.{some, some-injective, some-ne-none}
use native.Mathlib.Decide.{dec_le}
use lib.ListN.{get_elem?}
use Rattle.crossbeam_queue.specs.Fifo.{Forks, Merges}
use Rattle.crossbeam_queue.proofs.Lists.{at_set}
use Rattle.volume_model.specs.declared.reply.Msg.{Msg}
use Rattle.md_queue.specs.declared.ruled.rule.EndView.{EndView}
use Rattle.md_queue.specs.Delivery.{sender_view, receiver_view, spent_view, Traffic, IsDone, KnowsSent, KnowsGot, Knows}
use Rattle.md_queue.specs.Delivery.{HoldsInOrder}
use Rattle.md_queue.proofs.EachPass.{Each, each_set, each_longer, put_at, put_here, put_elsewhere, put_again}

-- the rule holds of an empty queue and of its first end
pub begins : HoldsInOrder [] (receiver_view [] [] 0 [] ∷ [])
begins = record { traffic = nothing; in_order = λ k. refl; known = first }
  where
    nothing : Traffic
    nothing = record { reader = 0; writers = λ _. None; sent = λ _. []; got = [] }

    first : Each (Knows nothing) (receiver_view [] [] 0 [] ∷ [])
    first zero view at = subst (Knows nothing 0) (some-injective (receiver_view [] [] 0 []) view at) (record {
      by_sender = λ never. absurd (true≢false (sym never));
      by_receiver = λ _. record {
        alone = refl;
        got = refl;
        joined = λ k low. absurd (omega arith);
        others = λ k _. record { no_writer = refl; whole = refl };
        within = omega arith;
      };
    })
    first (suc pass) view at = absurd (some-ne-none view (sym at))

module _ (pass : ℕ) (view : EndView) (is : view.is_receiver ≡ true) where
  -- a new sender, of the next channel
  pub forks : Forks HoldsInOrder pass view
      (receiver_view view.taken view.left (view.channels + 1) view.joined) (sender_view view.channels [])
  forks queue views kept at = record {
    traffic = next;
    in_order = kept.in_order;
    known = each_longer (Knows next) now (sender_view view.channels []) front (record {
      by_sender = λ _. record {
        alone = put_here traffic.writers view.channels (Some (length now));
        sent = free.whole;
      };
      by_receiver = λ never. absurd (true≢false (sym never));
    });
  }
    where
      traffic : Traffic
      traffic = kept.traffic

      now : List EndView
      now = set views pass (receiver_view view.taken view.left (view.channels + 1) view.joined)

      next : Traffic
      next = record traffic { writers = put_at traffic.writers view.channels (Some (length now)) }

      mine : KnowsGot traffic pass view
      mine = (kept.known pass view at).by_receiver is

      free : IsDone traffic view.channels []
      free = mine.others view.channels (omega arith)

      writer_still : (k : ℕ) → view.channels ≢ k → next.writers k ≡ traffic.writers k
      writer_still k apart = put_elsewhere traffic.writers view.channels (Some (length now)) k apart

      done_still : (k : ℕ) (whole : List Msg) → view.channels ≢ k → IsDone traffic k whole → IsDone next k whole
      done_still k whole apart done = record {
        no_writer = writer_still k apart ∙ done.no_writer;
        whole = done.whole;
      }

      other_still : (other : ℕ) (its : EndView) → other ≢ pass → Knows traffic other its → Knows next other its
      other_still other its apart known = record {
        by_sender = λ sends. let own = known.by_sender sends in record {
          alone = writer_still its.channel (taken own.alone) ∙ own.alone;
          sent = own.sent;
        };
        by_receiver = λ takes. absurd (apart ((known.by_receiver takes).alone ∙ sym mine.alone));
      }
        where
          taken : traffic.writers its.channel ≡ Some other → view.channels ≢ its.channel
          taken alone same =
              let both : None ≡ Some other = sym free.no_writer ∙ ap traffic.writers same ∙ alone in absurd (cc)

      front : Each (Knows next) now
      front =
          each_set (Knows next) views pass (receiver_view view.taken view.left (view.channels + 1) view.joined)
          (record {
            by_sender = λ never. absurd (true≢false (sym never));
            by_receiver = λ _. record {
              alone = mine.alone;
              got = mine.got;
              joined = λ k low. let few = mine.within in done_still k _ (omega arith) (mine.joined k low);
              others = λ k high. done_still k _ (omega arith) (mine.others k (omega arith));
              within = let few = mine.within in omega arith;
            };
          })
          (λ other its apart was. other_still other its apart (kept.known other its was))

  -- the sender is joined of the next channel whose sender wasn't
  pub merges : (other : ℕ) (theirs : EndView) → theirs.is_sender ≡ true → theirs.channel ≡ length view.joined
      → length view.joined < view.channels
      → Merges HoldsInOrder pass view other theirs
      (receiver_view view.taken view.left view.channels (view.joined ++ theirs.sent ∷ [])) spent_view
  merges other theirs sends own some_left queue views kept at two at_other = record {
    traffic = next;
    in_order = kept.in_order;
    known = each_set (Knows next) now other spent_view (record {
      by_sender = λ never. absurd (true≢false (sym never));
      by_receiver = λ never. absurd (true≢false (sym never));
    })
        (λ j its apart was. front j its was apart);
  }
    where
      traffic : Traffic
      traffic = kept.traffic

      channel : ℕ
      channel = length view.joined

      joined : List (List Msg)
      joined = view.joined ++ theirs.sent ∷ []

      now : List EndView
      now = set views pass (receiver_view view.taken view.left view.channels joined)

      next : Traffic
      next = record traffic { writers = put_at traffic.writers channel None }

      mine : KnowsGot traffic pass view
      mine = (kept.known pass view at).by_receiver is

      known : KnowsSent traffic other theirs
      known =
          let both : EndView = receiver_view view.taken view.left view.channels joined in
          let was : get_elem? views other ≡ some theirs =
          ⊎_elim (λ x. absurd (two x.0)) (λ x. x.1) (at_set views pass other both theirs at_other) in
          (kept.known other theirs was).by_sender sends

      done_still : (k : ℕ) (whole : List Msg) → IsDone traffic k whole → IsDone next k whole
      done_still k whole done = record {
        no_writer = put_again traffic.writers channel None k done.no_writer;
        whole = done.whole;
      }

      -- the channel of the sender that is joined is done now, as those before it were
      joined_now : (k : ℕ) → Dec (suc k ≤ channel) → k < length joined → IsDone next k (slice_index_or joined k [])
      joined_now k (yes front) low =
          let was = done_still k _ (mine.joined k front) in
          record {
            no_writer = was.no_writer;
            whole = get_or-append view.joined (theirs.sent ∷ []) [] k front ∙ was.whole;
          }
      joined_now k (no last) low =
          let same : channel ≡ k = omega (arith, length-append view.joined (theirs.sent ∷ [])) in
          subst (λ (j : ℕ). IsDone next j (slice_index_or joined j [])) same (record {
            no_writer = put_here traffic.writers channel None;
            whole =
                get_or-append_seam view.joined theirs.sent [] [] ∙ known.sent ∙ ap traffic.sent own;
          })

      other_still : (j : ℕ) (its : EndView) → j ≢ pass → j ≢ other → Knows traffic j its → Knows next j its
      other_still j its apart away knows = record {
        by_sender = λ is_one. let has = knows.by_sender is_one in record {
          alone = put_elsewhere traffic.writers channel None its.channel (elsewhere has.alone) ∙ has.alone;
          sent = has.sent;
        };
        by_receiver = λ takes. absurd (apart ((knows.by_receiver takes).alone ∙ sym mine.alone));
      }
        where
          elsewhere : traffic.writers its.channel ≡ Some j → channel ≢ its.channel
          elsewhere alone same =
              let both : Some j ≡ Some other =
              sym alone ∙ ap traffic.writers (sym same ∙ sym own) ∙ known.alone in
              away (cc)

      front : Each (λ j its. j ≢ other → Knows next j its) now
      front =
          each_set (λ j its. j ≢ other → Knows next j its) views pass
          (receiver_view view.taken view.left view.channels joined)
          (λ _. record {
            by_sender = λ never. absurd (true≢false (sym never));
            by_receiver = λ _. record {
              alone = mine.alone;
              got = mine.got;
              joined = λ k low. joined_now k (dec_le (suc k) channel) low;
              others = λ k high. done_still k _ (mine.others k high);
              within = omega (arith, length-append view.joined (theirs.sent ∷ []));
            };
          })
          (λ j its apart was away. other_still j its apart away (kept.known j its was))
