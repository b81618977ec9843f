-- What a channel's write of a page means, at whichever stage it is, by what was found of its blob.
use Rattle.std.proofs.Common.{◌≡◌, ℕ, ◌+◌, ◌*◌, ◌/◌, ◌%◌, ◌^◌, ◌<◌, ◌∷◌, Bool, true, false, List, Option, Some, None}
use Rattle.std.proofs.Common.{length}
use Rattle.std.proofs.Common.{arith, refl, sym, ap, subst, ◌∙◌}
use Rattle.std.specs.Prelude.{IfSome, IsSome}
use Rattle.std.specs.Option.{option_and_then, option_map, option_map_or}
use Rattle.std.specs.Ordering.{nat_cmp}
use Rattle.std.specs.FinMap as map
use Rattle.std.specs.FinSet as set
use Rattle.std.proofs.lemmas.Nat.{div_below}
use Rattle.std.proofs.Math.Nat.{mul_comm}
use Rattle.page_disk.specs.declared.disk.PageDisk.{Ghosts}
use Rattle.super_block.specs.Numbers.{cluster_pages_of}
use Rattle.super_block.specs.declared.page.Super.{Super}
use Rattle.volume_model.specs.Refusals.{refusal}
use Rattle.volume_model.specs.Volumes.{head_of, Fixed, Volumes}
use Rattle.volume_model.specs.declared.command.Command.{Command}
use Rattle.volume_model.specs.declared.command.Command.TheVariants as c
use Rattle.volume_model.specs.declared.command.PageWord.{PageWord}
use Rattle.volume_model.specs.declared.command.VolumeRef.{VolumeRef}
use Rattle.volume_model.specs.declared.reply.Reply.{Reply}
use Rattle.volume_model.specs.declared.reply.Reply.TheVariants as r
use Rattle.blob_meta.specs.declared.meta.Meta.{Meta}
use Rattle.blob_meta.specs.Find.{is_meant, IsLeast}
use Rattle.blob_meta.specs.Pages.{IsFirstOnPages, IsPageCause, own_place}
use Rattle.blob_meta.specs.Parents.{slot}
use Rattle.blob_meta.specs.ShownBy.{IsHeadMeant}
use Rattle.blob_meta.proofs.Refused.{none_meant}
use Rattle.blob_meta.proofs.Shown.{meant_there}
use Rattle.store_model.specs.Cases.{IsCauseReply}
use Rattle.store_model.specs.Claiming.{MeansSlot}
use Rattle.store_model.specs.Maps.{Metas}
use Rattle.store_model.specs.Rows.{Row, Stage}
use Rattle.store_model.specs.Shown.{fixed_of}
use Rattle.store_model.specs.StoreState.{shown, StoreState}
use Rattle.store_model.specs.Turning.{IsNotFrozen}
use Rattle.store_model.proofs.Inside.{none_of_map}
use Rattle.channel_turns.specs.ChannelTurns.{IsFrozenFor, WaitsToWrite}
use Rattle.channel_turns.specs.ClaimTurns.{writing_state}
use Rattle.running_store.specs.RunningState.{IsRunning}
use Rattle.running_store.specs.Steps.{Asks}
use Rattle.running_store.specs.StoreView.{AreResolved, rows_of, state_of, StoreView}
use Rattle.channel_turns.proofs.PagesShown.{few_slots, page_within, shows_pages}
use Rattle.channel_turns.proofs.FirstCommand.{frozen_first, IsFirstIn}

-- a head that is found is that of a blob
pub found_there : (metas : map.FinMap nat_cmp Meta) (sup : Super) (volume : VolumeRef) (o : Option ℕ)
    → IfSome o (λ h. IsLeast (is_meant sup.super_blob metas volume) h) → IfSome o (λ h. IsSome (map.get metas h))
found_there metas sup volume None found = tt
found_there metas sup volume (Some h) found = meant_there sup.super_blob metas volume h found.passes

-- a channel's write, by what is read of its first command
abbrev pub seen_write : {D : Type 0} (p : StoreView D) (channel : ℕ) (stage : Stage) (w : WaitsToWrite p channel stage)
    {rows : List Row} {command : Command} {volume : VolumeRef} {page : ℕ} {word : PageWord} → rows ≡ p.rows
    → IsFirstIn rows channel command → command ≡ c.Write volume page word → WaitsToWrite p channel stage
seen_write p channel stage w {rows} {command} {volume} {page} {word} same first is = record {
  volume = volume;
  page = page;
  word = word;
  rest = w.rest;
  row = w.row ∙ ap (λ (k : Command). record { left = k ∷ w.rest; stage = stage; claim = None })
      (sym (first (c.Write w.volume w.page w.word) w.rest
      (ap (λ (l : List Row). (rows_of l channel).left) same ∙ ap (λ (x : Row). x.left) w.row)) ∙ is);
}

-- a cause on a page is one in the volumes
pub page_cause : (reply : Reply) → IsPageCause reply → IsCauseReply reply
page_cause r.NoVolume is = tt
page_cause r.Reserved is = tt
page_cause r.OutOfRange is = tt
page_cause r.ReadOnly is = tt
page_cause _ is = absurd is

-- ---- the slot of a page

-- the blob that is found, with its cluster in a slot
pub record HasPlace (metas : Metas) (k : ℕ) (head : Option ℕ) (page place : ℕ) : Type 0 where
  pub at : ℕ
  pub head_is : head ≡ Some at
  pub meta : Meta
  pub there : metas at ≡ Some meta
  pub cluster : ℕ
  pub in_slot : slot meta (page / k) ≡ Some cluster
  pub place_is : place ≡ cluster * k + page % k

abbrev pub place_by : Metas → ℕ → ℕ → Option ℕ → Option ℕ
place_by metas k page head = option_and_then (λ h. option_and_then (λ m. own_place k m page) (metas h)) head

pub has_place : (metas : Metas) (k page place : ℕ) (head : Option ℕ) → place_by metas k page head ≡ Some place
    → HasPlace metas k head page place
has_place metas k page place None is = absurd (cc is)
has_place metas k page place (Some h) is = at (metas h) refl is
  where
    filled : (m : Meta) → metas h ≡ Some m → (o : Option ℕ) → slot m (page / k) ≡ o
        → option_map (λ cluster. cluster * k + page % k) o ≡ Some place → HasPlace metas k (Some h) page place
    filled m there None slot_is is = absurd (cc is)
    filled m there (Some cluster) slot_is is = record {
      at = h;
      head_is = refl;
      meta = m;
      there = there;
      cluster = cluster;
      in_slot = slot_is;
      place_is = let e : cluster * k + page % k ≡ place = cc is in sym e;
    }

    at : (o : Option Meta) → metas h ≡ o → option_and_then (λ m. own_place k m page) o ≡ Some place
        → HasPlace metas k (Some h) page place
    at None there is = absurd (cc is)
    at (Some m) there is = filled m there (slot m (page / k)) refl is

-- the blob at a head, with an empty slot
pub record HasEmpty (metas : Metas) (k h page : ℕ) : Type 0 where
  pub meta : Meta
  pub there : metas h ≡ Some meta
  pub empty : slot meta (page / k) ≡ None

pub has_empty : (metas : Metas) (k h page : ℕ) → IsSome (metas h) → place_by metas k page (Some h) ≡ None
    → HasEmpty metas k h page
has_empty metas k h page some is = at (metas h) refl some is
  where
    at : (o : Option Meta) → metas h ≡ o → IsSome o → option_and_then (λ m. own_place k m page) o ≡ None
        → HasEmpty metas k h page
    at None there some is = absurd (cc some)
    at (Some m) there some is = record {
      meta = m;
      there = there;
      empty = none_of_map (λ cluster. cluster * k + page % k) (slot m (page / k)) is;
    }

-- a blob that is found frozen is one
pub found_frozen : (f : Fixed) (v : Volumes) (frozen : ℕ → Bool) (volume : VolumeRef) (head : Option ℕ)
    → head_of f v volume ≡ head → option_map_or frozen head false ≡ true
    → (h : ℕ) × (head_of f v volume ≡ Some h) × (frozen h ≡ true)
found_frozen f v frozen volume None is on = absurd (cc on)
found_frozen f v frozen volume (Some h) is on = (h, is, on)

module _ {D : Type 0} (d : Ghosts D) (p : StoreView D) (channel : ℕ) (stage : Stage)
    (running : IsRunning (state_of d p)) (runs : p.stopped ≡ None) (are : AreResolved p.metas p.marked)
    (w : WaitsToWrite p channel stage)
    (head : Option ℕ) (meant : IsHeadMeant p.metas p.super w.volume head) where
  abbrev s : StoreState
  s = state_of d p

  abbrev k : ℕ
  k = cluster_pages_of p.super

  abbrev command : Command
  command = c.Write w.volume w.page w.word

  pub head_is : head_of (fixed_of p.super) (shown s) w.volume ≡ head
  head_is = meant (fixed_of p.super) (shown s) (shows_pages s running runs p.metas are.resolves).shows

  -- its blob is frozen
  pub frozen_so : option_map_or (set.contains p.guards.frozen) head false ≡ true → Asks p channel (IsFrozenFor s)
  frozen_so on =
      let x = found_frozen (fixed_of p.super) (shown s) (set.contains p.guards.frozen) w.volume head head_is on in
      frozen_first d p channel command w.rest (ap (λ (x : Row). x.left) w.row)
      (record { head = x.0; named = x.1; frozen = x.2 })

  -- what refuses it
  pub refused_so : (first : Option Reply) → IsFirstOnPages p.metas p.super command first
      → refusal (fixed_of p.super) (shown s) command ≡ first
  refused_so first is = is (fixed_of p.super) (shown s) (shows_pages s running runs p.metas are.resolves)

  -- a write that nothing refuses means a blob
  pub some_meant : refusal (fixed_of p.super) (shown s) command ≡ None → head ≡ None → ⊥
  some_meant asked none =
      let bad : Some r.NoVolume ≡ None =
      sym (none_meant (fixed_of p.super) (shown s) w.volume _ (head_is ∙ none)) ∙ asked in
      cc bad

  module _ (thawed : option_map_or (set.contains p.guards.frozen) head false ≡ false) where
    pub free : IsNotFrozen s w.volume
    free h is = subst (λ o. option_map_or (set.contains p.guards.frozen) o false ≡ false) (sym head_is ∙ is) thawed

    abbrev pub means_at : (h : ℕ) → head ≡ Some h → (m : Meta) → map.get p.metas h ≡ Some m → (cluster : Option ℕ)
        → slot m (w.page / k) ≡ cluster → MeansSlot s (writing_state d p channel stage w) cluster
    means_at h is m there cluster at = record {
      head = h;
      found = head_is ∙ is;
      free = free h (head_is ∙ is);
      meta = m;
      there = ap (λ (b : Metas). b h) are.resolves ∙ there;
      is = at;
    }

    -- the slot is empty
    pub means_none : refusal (fixed_of p.super) (shown s) command ≡ None
        → place_by (map.get p.metas) k w.page head ≡ None → IfSome head (λ h. IsSome (map.get p.metas h))
        → MeansSlot s (writing_state d p channel stage w) None
    means_none asked none there = by head refl there
      where
        by : (o : Option ℕ) → head ≡ o → IfSome o (λ h. IsSome (map.get p.metas h))
            → MeansSlot s (writing_state d p channel stage w) None
        by None is some = absurd (some_meant asked is)
        by (Some h) is some =
            let x = has_empty (map.get p.metas) k h w.page some
            (sym (ap (place_by (map.get p.metas) k w.page) is) ∙ none) in
            means_at h is x.meta x.there None x.empty

    -- the slot has no cluster
    pub unfilled : place_by (map.get p.metas) k w.page head ≡ None → (cluster : ℕ)
        → MeansSlot s (writing_state d p channel stage w) (Some cluster) → ⊥
    unfilled none cluster m =
        let is : head ≡ Some m.head = sym head_is ∙ m.found in
        let there : map.get p.metas m.head ≡ Some m.meta =
        sym (ap (λ (b : Metas). b m.head) are.resolves) ∙ m.there in
        let some : place_by (map.get p.metas) k w.page head ≡ Some (cluster * k + w.page % k) =
        ap (place_by (map.get p.metas) k w.page) is
        ∙ ap (option_and_then (λ (m : Meta). own_place k m w.page)) there
        ∙ ap (option_map (λ (cluster : ℕ). cluster * k + w.page % k)) m.is in
        let bad = sym none ∙ some in
        cc bad

  -- a slot of the blob is a number of 32 bits
  pub slot_low : (h : ℕ) → head ≡ Some h → (m : Meta) → map.get p.metas h ≡ Some m
      → refusal (fixed_of p.super) (shown s) command ≡ None → w.page / k < 2 ^ 32
  slot_low h is m there asked =
      let within = page_within s running runs p.metas are.resolves w.volume w.page w.word h m (head_is ∙ is) there asked
      in
      let few = few_slots s running runs p.metas are.resolves h m there in
      let some = running.placed.some_pages in
      let low : w.page / k < length m.map = div_below w.page k (length m.map)
      (subst (λ (sup : Super). 0 < cluster_pages_of sup) (sym running.facts.super) some)
      (subst (λ n. w.page < n) (mul_comm k (length m.map)) within) in
      omega (arith, low, few)
