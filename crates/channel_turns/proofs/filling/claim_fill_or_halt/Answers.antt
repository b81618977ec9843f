use Rattle.channel_turns.proofs.filling.claim_fill_or_halt.Goals as goal

pub claim_next-requires-clause-next : goal.claim_next-requires-clause-next
claim_next-requires-clause-next g c = c.requires.next c.in-None.is
