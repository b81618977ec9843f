-- A listing as a tree.
use Rattle.std.specs.Prelude.{ℕ, Bool, List, ◌++◌, codes, decimal, map}
use Rattle.blob_report.specs.Text.{writing_text}
use Rattle.listing_text.specs.Drawing.{tree_text}
use Rattle.listing_text.specs.Forest.{Node}
use Rattle.listing_text.specs.Listing.{Listing, VolumeFacts}

-- a volume by its head and its name
abbrev pub named_words : VolumeFacts → List ℕ
named_words v = codes "@" ++ decimal v.blob.head ++ codes " " ++ v.blob.name

-- how many slots it has, how many of them it has filled itself, and whether it can be written
abbrev pub slots_words : ℕ → ℕ → Bool → List ℕ
slots_words slots own read_only =
    codes " slots " ++ decimal slots ++ codes " own " ++ decimal own ++ writing_text read_only ++ codes "\n"

-- its place is below its parent
abbrev pub node_by : VolumeFacts → Node
node_by v = record {
  head = v.blob.head;
  parent = v.parent;
  words = named_words v ++ slots_words v.slots v.own v.read_only;
}

-- each volume below its parent
abbrev pub tree_of : Listing → List ℕ
tree_of l = tree_text (map node_by l.volumes)
