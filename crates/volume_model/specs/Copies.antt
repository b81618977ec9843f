-- What is the same but for where its boxed pages lie: boxed pages are compared by their bytes.
use Rattle.std.specs.Prelude.{◌≡◌}
use Rattle.volume_model.specs.declared.command.PageWord.{PageWord}
use Rattle.volume_model.specs.declared.command.PageWord.TheVariants.{Full}
use Rattle.volume_model.specs.declared.command.Command.{Command}
use Rattle.volume_model.specs.declared.command.Command.TheVariants.{Write}
use Rattle.volume_model.specs.declared.reply.Reply.{Reply}
use Rattle.volume_model.specs.declared.reply.Reply.TheVariants.{Content}
use Rattle.volume_model.specs.declared.reply.Entry.{Entry}

-- the same content of a page, boxed pages by their bytes
abbrev pub IsSameWord : PageWord → PageWord → Type 0
IsSameWord (Full page) (Full copy) = copy.value ≡ page.value
IsSameWord word copy = copy ≡ word

-- the same command in every part
abbrev pub IsSameCommand : Command → Command → Type 0
IsSameCommand (Write volume page word) (Write copy_volume copy_page copy_word) =
    (copy_volume ≡ volume) × (copy_page ≡ page) × IsSameWord word copy_word
IsSameCommand command copy = copy ≡ command

-- the same reply in every part
abbrev pub IsSameReply : Reply → Reply → Type 0
IsSameReply (Content page) (Content copy) = copy.value ≡ page.value
IsSameReply reply copy = copy ≡ reply

-- the same entry in every part
abbrev pub IsSameEntry : Entry → Entry → Type 0
IsSameEntry entry copy = (copy.channel ≡ entry.channel) × (copy.index ≡ entry.index)
    × IsSameCommand entry.command copy.command × IsSameReply entry.reply copy.reply
