-- Pages that are reserved for what commands read.
use Rattle.std.specs.Prelude.{◌≡◌, ℕ, if◌then◌else◌, Bool, true, false, List}
use Rattle.std.specs.List.{sum_by}
use Rattle.volume_model.specs.declared.command.Command.{Command}
use Rattle.volume_model.specs.declared.command.Command.TheVariants as c
use Rattle.volume_model.specs.declared.reply.Reply.{Reply}
use Rattle.volume_model.specs.declared.reply.Reply.TheVariants as r
use Rattle.running_store.specs.declared.logging.Answer.{Answer}
use Rattle.running_store.specs.declared.logging.Answer.TheVariants as answer

-- a command that reads a page
abbrev pub is_read : Command → Bool
is_read (c.Read volume page) = true
is_read _ = false

-- how many of these read a page
abbrev pub reads_in : List Command → ℕ
reads_in commands = sum_by (λ command. if is_read command then 1 else 0) commands

-- the reply is the page's content
abbrev pub IsContent : List ℕ → Reply → Type 0
IsContent content (r.Content page) = page.value ≡ content
IsContent content _ = ⊥

-- the answer is a page's content
abbrev pub IsPageAnswer : Answer → Type 0
IsPageAnswer (answer.Reply reply) = ⊥
IsPageAnswer (answer.Page content) = Unit {0}

-- the reply is that of the answer
abbrev pub IsReplyOf : Answer → Reply → Type 0
IsReplyOf (answer.Reply given) reply = reply ≡ given
IsReplyOf (answer.Page content) reply = IsContent content.now reply
