-- Senders and receivers that go to the threads of a run and come back.
use Rattle.std.proofs.Common.{◌≡◌, ◌≤◌, ◌+◌, ℕ, suc, List, [], ◌∷◌, ◌++◌, length, map, refl, sym, ap, ◌∙◌, subst}
use Rattle.std.proofs.Common.{append_assoc, arith, length-append}
use Rattle.std.proofs.lemmas.List.{map-append}
use Rattle.std.specs.declared.thread.PromisedHandle.{PromisedHandle}
use Rattle.atomic_table.specs.Seated.{TableId}
use Rattle.md_queue.specs.QueueEnds.{AreAllOf, AreOf, Receiver, Sender}
use Rattle.worker_threads.specs.declared.starting.SameEnd.{SameEnd}
use Rattle.worker_threads.specs.Senders.{AreOfOneLine, end_given, end_of, ends_of, IsSameReceiver}

-- the same senders are of the same line and channels
are_same : (line : TableId) (from : ℕ) (before after : List Sender) → ends_of after ≡ ends_of before
    → AreOf line from before → AreOf line from after
are_same line from [] [] same are = tt
are_same line from [] (s ∷ after) same are = absurd (cc same)
are_same line from (r ∷ before) [] same are = absurd (cc same)
are_same line from (r ∷ before) (s ∷ after) same are =
    let first : end_of s ≡ end_of r = cc same in
    let others : ends_of after ≡ ends_of before = cc same in (
      ap (λ (e : TableId × ℕ). e.0) first ∙ are.0,
      ap (λ (e : TableId × ℕ). e.1) first ∙ are.1,
      are_same line (from + 1) before after others are.2,
    )

-- they are as many
same_count : (before after : List Sender) → ends_of after ≡ ends_of before → length after ≡ length before
same_count [] [] same = refl
same_count [] (s ∷ after) same = absurd (cc same)
same_count (r ∷ before) [] same = absurd (cc same)
same_count (r ∷ before) (s ∷ after) same =
    let others : ends_of after ≡ ends_of before = cc same in ap suc (same_count before after others)

-- where all senders came back, and the receiver, they are all ends of the line
pub all_back : (before after : List Sender) (receiver back : Receiver) → AreAllOf before receiver
    → ends_of after ≡ ends_of before → IsSameReceiver receiver back → AreAllOf after back
all_back before after receiver back all same is = (
  subst (λ (line : TableId). AreOf line 0 after) (sym is.0) (are_same receiver.line 0 before after same all.0),
  same_count before after same ∙ all.1 ∙ sym is.1,
  is.2 ∙ all.2,
)

-- the first of senders is of this channel, and the others of those behind it
pub first_and_others : (channel : ℕ) (s : Sender) (senders others : List Sender) → AreOfOneLine channel senders
    → senders ≡ s ∷ others → (s.channel ≡ channel) × AreOfOneLine (channel + 1) others
first_and_others channel s senders others are is =
    let one = subst (AreOfOneLine channel) is are in (one.1.1, (one.0, one.1.2))

-- ---- workers

module _ {T : Type 0} (ends : List (TableId × ℕ)) where
  -- a worker more was started: with those that weren't there are still all
  pub started_next : (handles later : List (PromisedHandle T SameEnd)) (handle : PromisedHandle T SameEnd) (s : Sender)
      (senders others : List Sender) → map end_given handles ++ ends_of senders ≡ ends → senders ≡ s ∷ others
      → end_given handle ≡ end_of s → later ≡ handles ++ handle ∷ [] → map end_given later ++ ends_of others ≡ ends
  started_next handles later handle s senders others all is given pushed =
      ap (λ (hs : List (PromisedHandle T SameEnd)). map end_given hs ++ ends_of others) pushed
      ∙ ap (λ (es : List (TableId × ℕ)). es ++ ends_of others) (map-append end_given handles (handle ∷ []))
      ∙ append_assoc (map end_given handles) (end_given handle ∷ []) (ends_of others)
      ∙ ap (λ (e : TableId × ℕ). map end_given handles ++ e ∷ ends_of others) given
      ∙ ap (λ (l : List Sender). map end_given handles ++ ends_of l) (sym is)
      ∙ all

  -- a worker was joined: with those that weren't there are still all
  pub joined_next : (senders later : List Sender) (handle : PromisedHandle T SameEnd)
      (handles others : List (PromisedHandle T SameEnd)) (back : Sender)
      → ends_of senders ++ map end_given handles ≡ ends → handles ≡ handle ∷ others
      → end_of back ≡ end_given handle → later ≡ senders ++ back ∷ [] → ends_of later ++ map end_given others ≡ ends
  joined_next senders later handle handles others back all is same pushed =
      ap (λ (l : List Sender). ends_of l ++ map end_given others) pushed
      ∙ ap (λ (es : List (TableId × ℕ)). es ++ map end_given others) (map-append end_of senders (back ∷ []))
      ∙ append_assoc (ends_of senders) (end_of back ∷ []) (map end_given others)
      ∙ ap (λ (e : TableId × ℕ). ends_of senders ++ e ∷ map end_given others) same
      ∙ ap (λ (hs : List (PromisedHandle T SameEnd)). ends_of senders ++ map end_given hs) (sym is)
      ∙ all

  -- all that were started are joined, and all others stand behind them
  pub all_ends : (handles : List (PromisedHandle T SameEnd)) (joined unused after : List Sender)
      → map end_given handles ++ ends_of unused ≡ ends → ends_of joined ≡ map end_given handles
      → after ≡ joined ++ unused → ends_of after ≡ ends
  all_ends handles joined unused after all same pushed =
      ap (λ (l : List Sender). ends_of l) pushed
      ∙ map-append end_of joined unused
      ∙ ap (λ (es : List (TableId × ℕ)). es ++ ends_of unused) same
      ∙ all

-- where a worker is joined, its sender comes in place of its handle
pub few_next : {T : Type 0} (senders later : List Sender) (handle : PromisedHandle T SameEnd)
    (handles others : List (PromisedHandle T SameEnd)) (back : Sender) → handles ≡ handle ∷ others
    → later ≡ senders ++ back ∷ [] → length senders + length handles ≤ 16 → length later + length others ≤ 16
few_next senders later handle handles others back is pushed few =
    let more : length later ≡ length senders + 1 = ap length pushed ∙ length-append senders (back ∷ []) in
    let fewer : length handles ≡ suc (length others) = ap length is in omega (arith, more, fewer, few)
