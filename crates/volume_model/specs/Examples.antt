-- A small store by which each row of the table of verbs is tried: two pages in a slot, eight metadata pages, the super
-- blob at head 0.
use Rattle.std.specs.Prelude.{◌≡◌, ℕ, Option, Some, None, Bool, true, false, List, [], ◌∷◌, slice_get, codes}
use Rattle.std.specs.Global.{Box}
use Rattle.volume_model.specs.Xattrs.{Text, Xattrs, with_nul, name_key}
use Rattle.volume_model.specs.Volumes.{Page, Volume, Volumes, Fixed, zero_page, fill_page, two_xattrs}
use Rattle.volume_model.specs.Steps.{Allowed, change}
use Rattle.volume_model.specs.declared.text.Xattr.{Xattr}
use Rattle.volume_model.specs.declared.command.VolumeRef.TheVariants.{Head, Named}
use Rattle.volume_model.specs.declared.command.PageWord.TheVariants.{Fill, Full}
use Rattle.volume_model.specs.declared.command.Command.{Command}
use Rattle.volume_model.specs.declared.command.Command.TheVariants as c
use Rattle.volume_model.specs.declared.reply.Df.{Df}
use Rattle.volume_model.specs.declared.reply.Reply.{Reply}
use Rattle.volume_model.specs.declared.reply.Reply.TheVariants as r

-- two pages in a slot, eight metadata pages, the super blob at 0
abbrev pub small : Fixed
small = record { cluster_pages = 2; md_len = 8; super_blob = Some 0 }

-- one attribute
abbrev pub attribute : Text → Text → Xattr
attribute key value = record { key = key; value = value }

-- `name`, and `k` of a value
abbrev pub named : Text → Text → Xattrs
named name k = attribute name_key (with_nul name) ∷ attribute (codes "k") k ∷ []

module _ (a b d e : Page) where
  -- read-only, and the parent of v
  abbrev pub s : Volume
  s = record {
    pages = a ∷ b ∷ [];
    live = named (codes "s") (codes "1");
    synced = named (codes "s") (codes "1");
    thin = true;
    read_only = true;
    locked = false;
    parent = None;
  }

  -- its k is 2, and 1 after a crash
  abbrev pub v : Volume
  v = record {
    pages = d ∷ e ∷ [];
    live = named (codes "v") (codes "2");
    synced = named (codes "v") (codes "1");
    thin = true;
    read_only = false;
    locked = false;
    parent = Some 2;
  }

  -- a thick volume for itself
  abbrev pub w : Volume
  w = record {
    pages = a ∷ e ∷ [];
    live = named (codes "w") (codes "2");
    synced = named (codes "w") (codes "1");
    thin = false;
    read_only = false;
    locked = false;
    parent = None;
  }

  -- the super blob, which is locked
  abbrev pub super : Volume
  super = record {
    pages = [];
    live = named (codes "store") (codes "1");
    synced = named (codes "store") (codes "1");
    thin = false;
    read_only = true;
    locked = true;
    parent = None;
  }

  -- the super blob at 0, v at 1, s at 2, w at 3
  abbrev pub first : Volumes
  first = slice_get (super ∷ v ∷ s ∷ w ∷ [])

  -- The command may get the reply; the volume at h is then as given; one that the command doesn't speak of stays.
  pub record ExampleDoes (command : Command) (reply : Reply) (h : ℕ) (x : Option Volume) (other : ℕ) : Type 0 where
    pub allowed : Allowed small first command reply
    pub here : change small first command reply h ≡ x
    pub there : change small first command reply other ≡ first other

  -- a new volume, with `name` and `uuid` alone
  abbrev pub fresh : Text → Option (List ℕ) → List Page → Bool → Bool → Option ℕ → Option Volume
  fresh name uuid pages thin read_only parent =
      Some (record {
        pages = pages;
        live = two_xattrs small first name uuid;
        synced = two_xattrs small first name uuid;
        thin = thin;
        read_only = read_only;
        locked = false;
        parent = parent;
      })

  -- one row for each verb that is done
  pub record Verbs : Type 0 where
    pub create_thin : ExampleDoes (c.Create (codes "n") 1 false None) (r.Made 4) 4
        (fresh (codes "n") None (zero_page ∷ zero_page ∷ []) true false None) 1
    pub create_thick : (uuid : List ℕ) → ExampleDoes (c.Create (codes "n") 0 true (Some uuid)) (r.Made 7) 7
        (fresh (codes "n") (Some uuid) [] false false None) 1
    pub write_fill : ExampleDoes (c.Write (Named (codes "v")) 1 (Fill 7)) r.Ok 1
        (Some (record v { pages = d ∷ fill_page 7 ∷ [] })) 2
    pub write_full : (page : Box Page) → ExampleDoes (c.Write (Head 1) 0 (Full page)) r.Ok 1
        (Some (record v { pages = page.value ∷ e ∷ [] })) 2
    pub read : (page : Box Page) → page.value ≡ e
        → ExampleDoes (c.Read (Named (codes "v")) 1) (r.Content page) 1 (Some v) 2
    pub flush : ExampleDoes c.Flush r.Ok 1 (Some v) 2
    pub setx : ExampleDoes (c.SetX (Named (codes "v")) (codes "k") (codes "3")) r.Ok 1
        (Some (record v { live = named (codes "v") (codes "3") })) 2
    pub delx : ExampleDoes (c.DelX (Named (codes "v")) (codes "k")) r.Ok 1
        (Some (record v { live = attribute name_key (with_nul (codes "v")) ∷ [] })) 2
    pub getx : ExampleDoes (c.GetX (Named (codes "v")) (codes "k")) (r.Value (codes "2")) 1 (Some v) 2
    pub put_again : ExampleDoes (c.Put (Named (codes "v")) (codes "k") (codes "3")) r.Ok 1
        (Some (record v { live = named (codes "v") (codes "3"); synced = named (codes "v") (codes "3") })) 2
    pub put_new :
        let xattrs : Xattrs = attribute name_key (with_nul (codes "v")) ∷ attribute (codes "k") (codes "2")
        ∷ attribute (codes "j") (codes "5") ∷ [] in
        ExampleDoes (c.Put (Named (codes "v")) (codes "j") (codes "5")) r.Ok 1
        (Some (record v { live = xattrs; synced = xattrs })) 2
    pub sync : ExampleDoes (c.Sync (Named (codes "v"))) r.Ok 1
        (Some (record v { synced = named (codes "v") (codes "2") })) 2
    pub grow : ExampleDoes (c.Resize (Named (codes "v")) 2) r.Ok 1
        (Some (record v { pages = d ∷ e ∷ zero_page ∷ zero_page ∷ [] })) 2
    pub cut : ExampleDoes (c.Resize (Named (codes "v")) 0) r.Ok 1 (Some (record v { pages = [] })) 2
    pub snapshot : ExampleDoes (c.Snapshot (Named (codes "v")) (codes "n")) (r.Made 4) 4
        (fresh (codes "n") None (d ∷ e ∷ []) true true (Some 2)) 2
    pub snapshot_of : ExampleDoes (c.Snapshot (Named (codes "v")) (codes "n")) (r.Made 4) 1
        (Some (record v { parent = Some 4 })) 2
    pub snapshot_of_thick : ExampleDoes (c.Snapshot (Named (codes "w")) (codes "n")) (r.Made 4) 3
        (Some (record w { thin = true; parent = Some 4 })) 1
    pub clone : ExampleDoes (c.Clone (Named (codes "s")) (codes "n")) (r.Made 4) 4
        (fresh (codes "n") None (a ∷ b ∷ []) true false (Some 2)) 2
    pub inflate : ExampleDoes (c.Inflate (Named (codes "v"))) r.Ok 1 (Some (record v { thin = false; parent = None })) 2
    pub decouple : ExampleDoes (c.Decouple (Named (codes "v"))) r.Ok 1 (Some (record v { parent = None })) 2
    pub delete : ExampleDoes (c.Delete (Named (codes "s"))) r.Ok 2 None 3
    pub delete_for_clone : ExampleDoes (c.Delete (Named (codes "s"))) r.Ok 1 (Some (record v { parent = None })) 3
    pub rename : ExampleDoes (c.Rename (Named (codes "v")) (codes "n")) r.Ok 1
        (Some (record v { live = named (codes "n") (codes "2"); synced = named (codes "n") (codes "1") })) 2
    pub readonly : ExampleDoes (c.ReadOnly (Named (codes "v"))) r.Ok 1
        (Some (record v { synced = named (codes "v") (codes "2"); read_only = true })) 2
    pub info :
        ExampleDoes (c.Info (Head 1)) (r.Info (record {
          head = 1;
          name = codes "v";
          uuid = [];
          slots = 1;
          parent = Some 2;
          thin = true;
          read_only = false;
          xattrs = 2;
        })) 1 (Some v) 2
    pub list : ExampleDoes c.List (r.List (
        record {
          head = 1;
          name = codes "v";
          uuid = [];
          slots = 1;
          parent = Some 2;
          thin = true;
          read_only = false;
          xattrs = 2;
        }
        ∷ record {
          head = 2;
          name = codes "s";
          uuid = [];
          slots = 1;
          parent = None;
          thin = true;
          read_only = true;
          xattrs = 2;
        }
        ∷ record {
          head = 3;
          name = codes "w";
          uuid = [];
          slots = 1;
          parent = None;
          thin = false;
          read_only = false;
          xattrs = 2;
        }
        ∷ [])) 1 (Some v) 2
    pub df : (any : Df) → ExampleDoes c.Df (r.Df any) 1 (Some v) 2
