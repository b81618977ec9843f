-- How many messages there are, if each channel's are known.
use Rattle.std.proofs.Common.{◌≡◌, ℕ, suc, ◌<◌, ◌≤◌, ◌==◌, cond, Bool, true, false, true≢false, List, [], ◌∷◌, length}
use Rattle.std.proofs.Common.{set, refl, sym, ap, ◌∙◌, subst, arith}
use Rattle.std.specs.Prelude.{slice_index_or, sum_by}
use Rattle.std.proofs.Math.ListN.{get_or-eq_default}
use Rattle.std.proofs.lemmas.List.{get_or-set_same, get_or-set_other}
use Rattle.std.proofs.lemmas.List.Sums.{sum_by-cons, sum_by-set}
use native.Mathlib.Decide.{dec_le}
use Rattle.volume_model.specs.declared.reply.Msg.{Msg}
use Rattle.md_queue.specs.Delivery.{messages_on}

none_counted : (lists : List (List Msg)) → ((k : ℕ) → slice_index_or lists k [] ≡ []) → sum_by length lists ≡ 0
none_counted [] none = refl
none_counted (first ∷ lists) none =
    let empty : length first ≡ 0 = ap length (none 0) in
    let rest = none_counted lists (λ k. none (suc k)) in
    omega (arith, sum_by-cons length first lists, empty, rest)

same_here : (k : ℕ) → (k == k) ≡ true
same_here k = grind arith

within : (lists : List (List Msg)) (k : ℕ) (msg : Msg) (rest : List Msg) → slice_index_or lists k [] ≡ msg ∷ rest
    → k < length lists
within lists k msg rest is = by (dec_le (suc k) (length lists))
  where
    by : Dec (suc k ≤ length lists) → k < length lists
    by (yes low) = low
    by (no high) =
        let both : [] ≡ msg ∷ rest = sym (get_or-eq_default lists [] {n = k} (omega arith)) ∙ is in absurd (cc)

-- where each list has the messages of its channel, and no other channel has any, the lists have all messages
pub count_is : (msgs : List Msg) (lists : List (List Msg))
    → ((k : ℕ) → slice_index_or lists k [] ≡ messages_on k msgs) → length msgs ≡ sum_by length lists
count_is [] lists each = sym (none_counted lists each)
count_is (msg ∷ msgs) lists each =
    let channel = msg.channel in
    let rest = messages_on channel msgs in
    let own : slice_index_or lists channel [] ≡ msg ∷ rest =
    each channel ∙ ap (λ b. cond b (msg ∷ rest) rest) (same_here channel) in
    let low : channel < length lists = within lists channel msg rest own in
    let fewer = count_is msgs (set lists channel rest) (λ k. others k (channel == k) refl low) in
    let step = sum_by-set length lists channel rest [] low in
    let size : length (slice_index_or lists channel []) ≡ suc (length rest) = ap length own in
    omega (arith, fewer, step, size)
  where
    others : (k : ℕ) (b : Bool) → (msg.channel == k) ≡ b → msg.channel < length lists
        → slice_index_or (set lists msg.channel (messages_on msg.channel msgs)) k [] ≡ messages_on k msgs
    others k true is low =
        let same : msg.channel ≡ k = grind (arith, is) in
        let rest = messages_on msg.channel msgs in
        subst (λ (j : ℕ). slice_index_or (set lists msg.channel rest) j [] ≡ messages_on j msgs) same
        (get_or-set_same lists msg.channel rest [] low)
    others k false is low =
        get_or-set_other lists msg.channel k (messages_on msg.channel msgs) [] apart ∙ each k
        ∙ ap (λ b. cond b (msg ∷ messages_on k msgs) (messages_on k msgs)) is
      where
        apart : k ≡ msg.channel → ⊥
        apart same =
            true≢false (sym (same_here msg.channel) ∙ ap (λ (j : ℕ). msg.channel == j) (sym same) ∙ is)
