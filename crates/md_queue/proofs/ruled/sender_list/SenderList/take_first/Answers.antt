use Rattle.std.proofs.Common.{◌≡◌, [], ◌∷◌, subst, List, IfSome, IfNone, rules}
use Rattle.md_queue.specs.QueueEnds.{Sender, senders_in}
use Rattle.md_queue.proofs.SenderPlaces.{full-first}
use Rattle.md_queue.proofs.ruled.sender_list.SenderList.take_first.Goals as goal

pub invariant_of-self : goal.invariant_of-self
invariant_of-self c =
    (full-first c.self.inside.places.items c.remove.new.self.items c.remove.result (search rules)
    c.remove.ensures.value c.remove.ensures.items c.self.invariant).0

pub returns : goal.returns
returns c =
    let after = c.remove.new.self.items in
    let first =
    full-first c.self.inside.places.items after c.remove.result (search rules) c.remove.ensures.value
    c.remove.ensures.items c.self.invariant in
    record {
      first = subst (λ (l : List Sender). IfSome c.remove.result (λ s. l ≡ s ∷ senders_in after)) c.self.view_is first.1;
      none =
          subst (λ (l : List Sender). IfNone c.remove.result ((l ≡ []) × (senders_in after ≡ [])))
          c.self.view_is first.2;
    }
