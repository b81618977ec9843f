-- A listing as one object of JSON, on one line. The members of an object stand in the order of their keys.
use Rattle.std.specs.Prelude.{ℕ, List, Option, Some, None, ◌++◌, codes, map}
use Rattle.serde_json.specs.Data.{Data, null, boolean, number, unsigned, string, array, object, member, no_members}
use Rattle.serde_json.specs.View.{items_of}
use Rattle.serde_json.specs.Written.{compact_text}
use Rattle.listing_text.specs.Listing.{BlobFacts, Listing, StoreFacts, VolumeFacts}

abbrev pub count_data : ℕ → Data
count_data n = number (unsigned n)

-- how many there are, and how many are free
abbrev pub space_data : ℕ → ℕ → Data
space_data total free =
    object (member (codes "free") (count_data free) (member (codes "total") (count_data total) no_members))

abbrev pub store_data : StoreFacts → Data
store_data s =
    object (member (codes "clean") (boolean s.clean)
    (member (codes "cluster_size") (count_data s.cluster_size)
    (member (codes "clusters") (space_data s.space.clusters s.space.free_clusters)
    (member (codes "pages") (space_data s.space.pages s.space.free_pages)
    (member (codes "type") (string s.kind) no_members)))))

abbrev pub blob_data : BlobFacts → Data
blob_data b =
    object (member (codes "head") (count_data b.head)
    (member (codes "name") (string b.name) (member (codes "uuid") (string b.uuid) no_members)))

-- no super blob is null
abbrev pub super_data : Option BlobFacts → Data
super_data None = null
super_data (Some b) = blob_data b

-- no parent is null
abbrev pub parent_data : Option ℕ → Data
parent_data None = null
parent_data (Some head) = count_data head

abbrev pub volume_data : VolumeFacts → Data
volume_data v =
    object (member (codes "head") (count_data v.blob.head)
    (member (codes "name") (string v.blob.name)
    (member (codes "own") (count_data v.own)
    (member (codes "parent") (parent_data v.parent)
    (member (codes "read_only") (boolean v.read_only)
    (member (codes "slots") (count_data v.slots)
    (member (codes "thin") (boolean v.thin)
    (member (codes "uuid") (string v.blob.uuid) no_members))))))))

abbrev pub volumes_data : List VolumeFacts → Data
volumes_data volumes = array (items_of (map volume_data volumes))

abbrev pub data_of : Listing → Data
data_of l =
    object (member (codes "store") (store_data l.store)
    (member (codes "super") (super_data l.super_blob)
    (member (codes "volumes") (volumes_data l.volumes) no_members)))

-- the text of the object with no space, and LF
abbrev pub json_of : Listing → List ℕ
json_of l = compact_text (data_of l) ++ codes "\n"
