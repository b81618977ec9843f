-- A log that grows by one entry.
use Rattle.std.proofs.Common.{◌≡◌, List, [], ◌∷◌, ◌++◌, refl}
use Rattle.volume_model.specs.Volumes.{Volumes, Fixed}
use Rattle.volume_model.specs.Steps.{change, Allowed}
use Rattle.volume_model.specs.Logs.{replay, IsLegal}
use Rattle.volume_model.specs.declared.reply.Entry.{Entry}

module _ (f : Fixed) where
  -- a log with one entry more replays to the change that the entry makes
  pub replay_push : (v : Volumes) (log : List Entry) (e : Entry)
      → replay f v (log ++ e ∷ []) ≡ change f (replay f v log) e.command e.reply
  replay_push v [] e = refl
  replay_push v (x ∷ log) e = replay_push (change f v x.command x.reply) log e

  -- a legal log stays so with an entry that may come
  pub legal_push : (v : Volumes) (log : List Entry) (e : Entry) → IsLegal f v log
      → Allowed f (replay f v log) e.command e.reply → IsLegal f v (log ++ e ∷ [])
  legal_push v [] e so_far here = (here, tt)
  legal_push v (x ∷ log) e so_far here = (so_far.0, legal_push (change f v x.command x.reply) log e so_far.1 here)
