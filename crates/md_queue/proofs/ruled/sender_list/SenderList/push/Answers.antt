use Rattle.std.proofs.Common.{[], ◌∷◌, ◌++◌, ap, ◌∙◌}
use Rattle.md_queue.proofs.SenderPlaces.{full-push}
use Rattle.md_queue.proofs.ruled.sender_list.SenderList.push.Goals as goal

pub invariant_of-self : goal.invariant_of-self
invariant_of-self c =
    (full-push c.self.inside.places.items c.push.new.self.items c.args.sender c.self.invariant
    c.push.ensures.items).0

pub returns : goal.returns
returns c =
    (full-push c.self.inside.places.items c.push.new.self.items c.args.sender c.self.invariant
    c.push.ensures.items).1
    ∙ ap (λ l. l ++ c.args.sender ∷ []) c.self.view_is
