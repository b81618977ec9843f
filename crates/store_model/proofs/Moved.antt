-- What is known of a job and of used places, on a state with the same parts.
use Rattle.std.proofs.Common.{[], ◌∷◌, ◌++◌, ◌/◌, ◌≡◌, ℕ, List, Option, Some, None, refl, sym, ◌∙◌, ap, subst, true}
use Rattle.std.specs.Option.{option_map, option_map_or}
use Rattle.std.proofs.Math.Path.{fun_ext}
use Rattle.volume_model.specs.Volumes.{Volume, Volumes}
use Rattle.volume_model.specs.Xattrs.{Xattrs}
use Rattle.super_block.specs.declared.page.Super.{Super}
use Rattle.blob_meta.specs.declared.meta.Meta.{Meta}
use Rattle.blob_meta.specs.Resolving.{resolved}
use Rattle.store_model.specs.Maps.{Map}
use Rattle.store_model.specs.Shown.{fixed_of, volume_of}
use Rattle.store_model.specs.Rows.{OpenClaim, Rows, Row, InJob}
use Rattle.store_model.specs.StoreState.{JobState, StoreState, shown, ForCommand, ForInsert, ForRepair, Service}
use Rattle.page_disk.specs.Disk.{Image}
use Rattle.super_block.specs.Numbers.{cluster_pages_of}
use Rattle.md_chain.specs.Chain.{is_among}
use Rattle.store_model.specs.Jobs.{AreZeroed, gained_by, inserted_by, JobStands, IsLeftOfInsert, zeros_in}
use Rattle.store_model.specs.Cases.{live_of}
use Rattle.store_model.specs.RunInvariant.{CanBeWritten, RunsWell}
use Rattle.store_model.proofs.Shows.{or_empty}
use Rattle.store_model.proofs.Writable.{AllWritable, OnlyLive}
use Rattle.store_model.specs.Phases.{Erases, Frees, Marks, Phase, Replaces, Writes, Zeros}

-- what is read of claimed clusters is read still
pub zeroed_still : (s : Super) (claimed zeros : List ℕ) (image other : Image)
    → ((page : ℕ) → is_among (page / cluster_pages_of s) claimed ≡ true → other page ≡ image page)
    → AreZeroed s claimed zeros image → AreZeroed s claimed zeros other
zeroed_still s claimed zeros image other same x page among out = same page among ∙ x page among out

-- what is left of an insert, on a state with the same row
pub puts_same : (p q : StoreState) → q.base ≡ p.base → q.generations ≡ p.generations → (row : ℕ)
    → q.rows row ≡ p.rows row → (todo : List Phase) → IsLeftOfInsert p row todo → IsLeftOfInsert q row todo
puts_same p q base generations row same [] puts = tt
puts_same p q base generations row same (Replaces r commit ∷ rest) puts =
    let x = puts.0 in (
      record {
        claim = x.claim;
        held = ap (λ (o : Row). o.claim) same ∙ x.held;
        wanted = record {
          current = ap (λ (g : Map ℕ). g x.claim.head) generations ∙ x.wanted.current;
          meta = x.wanted.meta;
          there = ap (λ (m : Map Meta). resolved m x.claim.head) base ∙ x.wanted.there;
          empty = x.wanted.empty;
        };
        within = x.within;
        head = x.head;
        there = x.there;
        new = x.new;
      },
      puts.1,
    )
puts_same p q base generations row same (Marks ∷ rest) puts = puts_same p q base generations row same rest puts
puts_same p q base generations row same (Zeros page ∷ rest) puts = puts
puts_same p q base generations row same (Writes place ∷ rest) puts = puts_same p q base generations row same rest puts
puts_same p q base generations row same (Erases place ∷ rest) puts = puts_same p q base generations row same rest puts
puts_same p q base generations row same (Frees place old ∷ rest) puts =
    puts_same p q base generations row same rest puts

-- no cluster is inserted by any other job
pub inserted_none : (rows : Rows) (x : Service) → ((row : ℕ) → x ≡ ForInsert row → ⊥) → inserted_by rows x ≡ []
inserted_none rows (ForCommand channel) other = refl
inserted_none rows (ForInsert row) other = absurd (other row refl)
inserted_none rows ForRepair other = refl

-- the cluster that is inserted, by rows in the job that are as they were
inserted_same : (rows others : Rows) (x : Service) → ((row : ℕ) → x ≡ ForInsert row → others row ≡ rows row)
    → inserted_by others x ≡ inserted_by rows x
inserted_same rows others (ForCommand channel) same = refl
inserted_same rows others (ForInsert row) same =
    ap (λ (r : Row). option_map_or (λ (c : OpenClaim). c.cluster ∷ []) r.claim []) (same row refl)
inserted_same rows others ForRepair same = refl

-- a job stands on a state with the same metadata, chains, attributes and generations, where the rows in the job are the
-- same
pub stands_same : (p q : StoreState) → q.super ≡ p.super → q.base ≡ p.base → q.chains ≡ p.chains → q.live ≡ p.live
    → q.generations ≡ p.generations → (j : JobState)
    → ((row : ℕ) → (p.rows row).stage ≡ InJob → q.rows row ≡ p.rows row)
    → ((page : ℕ) → is_among (page / cluster_pages_of p.super) j.claimed ≡ true
    → q.device.reads page ≡ p.device.reads page) → JobStands p j → JobStands q j
stands_same p q super base chains live generations j rows reads x =
    let gained : gained_by q.rows j ≡ gained_by p.rows j = ap (λ l. l ++ j.claimed)
    (inserted_same p.rows q.rows j.serves
    (λ row serves. rows row (x.inserts row serves).waits)) in
    record {
      lays = rw (super, base, chains, gained) x.lays;
      distinct = x.distinct;
      served = λ channel serves waits.
          let y = x.served channel serves waits in
          record {
            command = y.command;
            rest = y.rest;
            row = rows channel (ap (λ (r : Row). r.stage) y.row) ∙ y.row;
            does = rw (super, base, live) y.does;
          };
      keeps = λ none other. rw base (x.keeps none other);
      settles = λ other. rw base (x.settles other);
      mends = x.mends;
      zeroed = rw super (zeroed_still p.super j.claimed (zeros_in j.todo) p.device.reads q.device.reads reads x.zeroed);
      inserts = λ row serves.
          let y = x.inserts row serves in
          let same = rows row y.waits in
          record {
            unmarked = rw base y.unmarked;
            waits = ap (λ (r : Row). r.stage) same ∙ y.waits;
            thaws = y.thaws;
            unclaimed = y.unclaimed;
            puts = puts_same p q base generations row same j.todo y.puts;
          };
    }

-- ---- live attributes

-- each blob has live attributes that can be written
abbrev pub HaveLive : StoreState → Type 0
HaveLive p =
    (head : ℕ) (m : Meta) → resolved p.base head ≡ Some m
    → (xattrs : Xattrs) × (p.live head ≡ Some xattrs) × CanBeWritten xattrs

-- and no other has any
abbrev pub NoOtherLive : StoreState → Type 0
NoOtherLive p = (head : ℕ) → resolved p.base head ≡ None → p.live head ≡ None

-- so the volumes shown have just these
pub live_shown : (p : StoreState) → HaveLive p → NoOtherLive p → (h : ℕ) → live_of (shown p) h ≡ p.live h
live_shown p have no_other h = by (resolved p.base h) refl
  where
    by : (o : Option Meta) → resolved p.base h ≡ o → live_of (shown p) h ≡ p.live h
    by None is =
        let gone : shown p h ≡ None = rw is refl in
        ap (λ o. option_map (λ (x : Volume). x.live) o) gone ∙ sym (no_other h is)
    by (Some m) is =
        let l = have h m is in
        let shows : live_of (shown p) h ≡ Some (or_empty (p.live h)) = rw is refl in
        shows ∙ ap (λ o. Some (or_empty o)) l.1 ∙ sym l.1

pub live_writable : (p : StoreState) → HaveLive p → AllWritable (shown p)
live_writable p live h x is = at (resolved p.base h) refl is
  where
    shown_by : Option Meta → Option Volume
    shown_by o = option_map (λ m. volume_of (fixed_of p.super).cluster_pages p.device.reads
        (resolved p.base) p.super.md_len
        (or_empty (p.live h)) h m) o

    at : (o : Option Meta) → resolved p.base h ≡ o → shown_by o ≡ Some x → CanBeWritten x.live
    at None there made = absurd (cc made)
    at (Some m) there made =
        let l = live h m there in
        let same : or_empty (p.live h) ≡ l.0 = ap or_empty l.1 in
        let e : volume_of (fixed_of p.super).cluster_pages p.device.reads (resolved p.base) p.super.md_len
        (or_empty (p.live h)) h m ≡ x = cc made in
        subst CanBeWritten (sym same ∙ ap (λ (y : Volume). y.live) e) l.2

pub all_writable : (first : Volumes) (p : StoreState) → RunsWell first p → AllWritable (shown p)
all_writable first p well = live_writable p well.live

module _ (p q : StoreState) (w : Volumes) (only : OnlyLive (shown p) w) (super : q.super ≡ p.super)
    (base : q.base ≡ p.base) (reads : q.device.reads ≡ p.device.reads) (live : q.live ≡ live_of w) where
  abbrev with_live : ℕ → Xattrs → Option Meta → Option Volume
  with_live h xs o =
      option_map (λ m. volume_of (fixed_of p.super).cluster_pages p.device.reads (resolved p.base)
      p.super.md_len xs h m) o

  again : (h : ℕ) (xs : Xattrs) (o : Option Meta)
      → with_live h xs o ≡ option_map (λ (x : Volume). record x { live = xs }) (with_live h (or_empty (p.live h)) o)
  again h xs None = refl
  again h xs (Some m) = refl

  pub shown_live : shown q ≡ w
  shown_live =
      fun_ext (λ h. (rw (super, base, reads, live) refl) ∙ again h (or_empty (live_of w h)) (resolved p.base h)
      ∙ sym (only h))

-- each blob has live attributes that can be written
module _ (p : StoreState) (w : Volumes) (only : OnlyLive (shown p) w) (can : AllWritable w) where
  pub live_now : (head : ℕ) (m : Meta) → resolved p.base head ≡ Some m
      → (xattrs : Xattrs) × (live_of w head ≡ Some xattrs) × CanBeWritten xattrs
  live_now head m there =
      let v : Volume = volume_of (fixed_of p.super).cluster_pages p.device.reads (resolved p.base) p.super.md_len
      (or_empty (p.live head)) head m in
      let is : w head ≡ Some (record v { live = or_empty (live_of w head) }) = only head ∙ rw there refl in
      (or_empty (live_of w head), ap (λ o. option_map (λ (x : Volume). x.live) o) is, can head _ is)

  pub no_live_now : (head : ℕ) → resolved p.base head ≡ None → live_of w head ≡ None
  no_live_now head none =
      let gone : w head ≡ None = only head ∙ rw none refl in ap (λ o. option_map (λ (x : Volume). x.live) o) gone
