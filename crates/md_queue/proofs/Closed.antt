-- What the receiver knows once all senders were joined, and once nothing is in the queue.
use Rattle.std.proofs.Common.{◌≡◌, ℕ, ◌==◌, List, [], ◌++◌, length, sym, ap, ◌∙◌, append-nil}
use Rattle.std.specs.Prelude.{slice_index_or}
use Rattle.std.proofs.lemmas.List.Elements.{filter-append}
use Rattle.volume_model.specs.declared.reply.Msg.{Msg}
use Rattle.md_queue.specs.declared.ruled.rule.EndView.{EndView}
use Rattle.md_queue.specs.Delivery.{messages_on, receiver_view, AccountsForAll}

module _ (view : EndView) (taken left : List Msg) (channels : ℕ) (joined : List (List Msg))
    (is : view ≡ receiver_view taken left channels joined) where
  -- all senders are joined still
  pub all_still : channels ≡ length joined → view.channels ≡ length view.joined
  all_still all = ap (λ (v : EndView). v.channels) is ∙ all ∙ ap (λ (v : EndView). length v.joined) (sym is)

  -- with nothing in the queue, what was sent is what was taken, then what is left
  pub handled : AccountsForAll view [] → (k : ℕ)
      → slice_index_or view.joined k [] ≡ messages_on k view.taken ++ messages_on k left
  handled whole k =
      whole.each k ∙ ap (messages_on k) (append-nil (view.taken ++ view.left))
      ∙ filter-append (λ (m : Msg). m.channel == k) view.taken view.left
      ∙ ap (λ (msgs : List Msg). messages_on k view.taken ++ messages_on k msgs)
      (ap (λ (v : EndView). v.left) is)
