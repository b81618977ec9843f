-- A log that grows by one entry.
use Rattle.std.proofs.Common.{◌≡◌, ℕ, ◌+◌, List, [], ◌∷◌, ◌++◌, length, ◌∙◌, arith}
use Rattle.volume_model.specs.Logs.{Numbered}
use Rattle.volume_model.specs.declared.command.Command.{Command}
use Rattle.volume_model.specs.declared.reply.Entry.{Entry}

pub numbered-push : (n : ℕ) (es : List Entry) (commands : List Command) (e : Entry) (command : Command)
    → Numbered n es commands → e.index ≡ n + length es → e.command ≡ command
    → Numbered n (es ++ e ∷ []) (commands ++ command ∷ [])
numbered-push n [] [] e command so_far index is = (index ∙ omega arith, is, tt)
numbered-push n [] (c ∷ commands) e command so_far index is = absurd so_far
numbered-push n (x ∷ es) [] e command so_far index is = absurd so_far
numbered-push n (x ∷ es) (c ∷ commands) e command so_far index is =
    (so_far.0, so_far.1, numbered-push (n + 1) es commands e command so_far.2 (index ∙ omega arith) is)
