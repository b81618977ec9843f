-- The printed text of a log, and of the space that a new store has.
use Rattle.std.specs.Prelude.{ℕ, Bool, if◌then◌else◌, List, [], ◌∷◌, ◌++◌, length, decimal, codes}
use Rattle.std.specs.List.{flat_map}
use Rattle.volume_model.specs.declared.reply.Df.{Df}
use Rattle.volume_model.specs.declared.reply.Info.{Info}
use Rattle.volume_model.specs.declared.reply.Reply.{Reply}
use Rattle.volume_model.specs.declared.reply.Reply.TheVariants as r
use Rattle.volume_model.specs.declared.reply.Entry.{Entry}
use Rattle.blob_report.specs.PageText.{page_text}
use Rattle.blob_report.specs.Pieces.{hex_text, shown_bytes, head_text}

-- two hexadecimal digits a byte, or `-` where there is none
abbrev pub value_text : List ℕ → List ℕ
value_text [] = codes "value -"
value_text (byte ∷ bytes) = codes "value " ++ hex_text (byte ∷ bytes)

-- free of all
abbrev pub df_text : Df → List ℕ
df_text df =
    codes "df clusters " ++ decimal df.free_clusters ++ codes " of " ++ decimal df.clusters
    ++ codes " pages " ++ decimal df.free_pages ++ codes " of " ++ decimal df.pages

abbrev pub filling_text : Bool → List ℕ
filling_text thin = if thin then codes " thin" else codes " thick"

abbrev pub writing_text : Bool → List ℕ
writing_text read_only = if read_only then codes " ro" else codes " rw"

-- what is known of a volume
abbrev pub info_text : Info → List ℕ
info_text info =
    codes "volume @" ++ decimal info.head ++ codes " " ++ shown_bytes info.name ++ codes " slots " ++ decimal info.slots
    ++ codes " parent " ++ head_text info.parent
    ++ filling_text info.thin ++ writing_text info.read_only ++ codes " xattrs " ++ decimal info.xattrs

abbrev pub info_line : Info → List ℕ
info_line info = codes "\n" ++ info_text info

-- how many there are, and then a line for each
abbrev pub list_text : List Info → List ℕ
list_text infos = codes "list " ++ decimal (length infos) ++ flat_map info_line infos

-- the text of a reply
abbrev pub reply_text : Reply → List ℕ
reply_text r.Ok = codes "ok"
reply_text (r.Made head) = codes "ok @" ++ decimal head
reply_text (r.Content page) = page_text page.value
reply_text (r.Value value) = value_text value
reply_text (r.Info info) = info_text info
reply_text (r.List infos) = list_text infos
reply_text (r.Df df) = df_text df
reply_text r.NoVolume = codes "no volume"
reply_text r.OutOfRange = codes "out of range"
reply_text r.ReadOnly = codes "read only"
reply_text r.NotReadOnly = codes "not read only"
reply_text r.Full = codes "full"
reply_text r.NoPage = codes "no page"
reply_text r.NameTaken = codes "name taken"
reply_text (r.Busy clones) = codes "busy " ++ decimal clones
reply_text r.NoParent = codes "no parent"
reply_text r.Short = codes "short"
reply_text r.Reserved = codes "reserved"
reply_text r.NoValue = codes "no value"
reply_text r.TooLong = codes "too long"
reply_text r.TooLarge = codes "too large"
reply_text r.ReadFault = codes "read fault"
reply_text r.Fault = codes "fault"
reply_text (r.Stopped at) = codes "stopped " ++ decimal at
reply_text r.Memory = codes "no memory"

-- the channel, the index and the reply, with single spaces, and LF
abbrev pub entry_text : Entry → List ℕ
entry_text entry =
    decimal entry.channel ++ codes " " ++ decimal entry.index ++ codes " " ++ reply_text entry.reply ++ codes "\n"

-- a line for each entry, in the log's order
abbrev pub log_text : List Entry → List ℕ
log_text entries = flat_map entry_text entries

-- what a new store has: all and free, of each kind, and LF
abbrev pub space_text : Df → List ℕ
space_text space =
    codes "clusters " ++ decimal space.clusters ++ codes " free " ++ decimal space.free_clusters
    ++ codes " pages " ++ decimal space.pages ++ codes " free " ++ decimal space.free_pages ++ codes "\n"
