-- What a resize asks for: steady metadata, and what each image shows with it.
use Rattle.std.proofs.Common.{◌≡◌, ◌≢◌, ℕ, suc, ◌/◌, ◌<◌, Bool, true, false, List, [], ◌∷◌, length, Some, None, refl}
use Rattle.std.proofs.Common.{sym, ap, ◌∙◌, subst, inl, inr, arith}
use Rattle.std.specs.List.{AllByRecursion}
use Rattle.std.specs.Prelude.{if◌then◌else◌, is_some, IsSome, nat_lt}
use Rattle.std.specs.Option.{option_map}
use Rattle.std.proofs.lemmas.Bool.{cases_Bool, cases_eq, cases_lt, false≢true, lt-ltb}
use Rattle.std.proofs.Math.Path.{fun_ext}
use Rattle.page_disk.specs.Disk.{Image}
use Rattle.volume_model.specs.Volumes.{Fixed, head_of, resized, Volume, zero_page, Volumes}
use Rattle.volume_model.specs.Refusals.{refusal}
use Rattle.volume_model.specs.Steps.{Allowed, change, named_head}
use Rattle.volume_model.specs.declared.command.Command.{Command}
use Rattle.volume_model.specs.declared.command.Command.TheVariants as c
use Rattle.volume_model.specs.declared.command.VolumeRef.{VolumeRef}
use Rattle.volume_model.specs.declared.reply.Reply.TheVariants as r_
use Rattle.volume_model.proofs.Blank.{same_named, same_refusal}
use Rattle.blob_meta.specs.declared.meta.Meta.{Meta}
use Rattle.blob_meta.specs.declared.job.Job.{Job as Changes}
use Rattle.blob_meta.specs.Faults.{is_thin}
use Rattle.blob_meta.specs.Jobs.{resized_meta}
use Rattle.blob_meta.specs.Repairs.{HasNoMarks}
use Rattle.blob_meta.specs.Parents.{parent_of}
use Rattle.md_chain.specs.Chain.{is_among}
use Rattle.store_model.specs.Maps.{Metas, with_entry}
use Rattle.store_model.specs.Shown.{content, fixed_of}
use Rattle.store_model.specs.Phases.{Committing, replaced, Replacing}
use Rattle.store_model.specs.StoreState.{live_of, shown, StoreState}
use Rattle.store_model.specs.Asking.{IsResizeJob}
use Rattle.store_model.specs.Copying.{LeavesSlotsEmpty}
use Rattle.store_model.specs.Jobs.{IsStep, ReadsZeros, shown_of, with_clusters}
use Rattle.store_model.specs.Steady.{AreSteady, CanBeWritten, IsSteady}
use Rattle.store_model.specs.RunInvariant.{RunsWell}
use Rattle.store_model.specs.Places.{AreLeastClear}
use Rattle.store_model.proofs.Sets.{among_first}
use Rattle.store_model.proofs.EmptySlots.{Anything, leaves_elsewhere, leaves_given, leaves_resolved, resized_empty}
use Rattle.store_model.proofs.ClaimedZeros.{zeros_read}
use Rattle.store_model.proofs.ZeroSlots.{other_slot, AreEmpty, IsZeroedAt}
use Rattle.store_model.proofs.ZeroedBlob.{volume_zeroed, IsZeroed}
use Rattle.store_model.proofs.Elsewhere.{IsChildless}
use Rattle.store_model.proofs.Known.{Known}
use Rattle.store_model.proofs.Meanwhile.{blank_reading, reading}
use Rattle.store_model.proofs.Moved.{live_shown, live_writable}
use Rattle.store_model.proofs.OneReplacement.{base_is, base_steady, IsReady, ready_by, some_pages}
use Rattle.store_model.proofs.ResizeMeta as before
use Rattle.store_model.proofs.ResizeAsked.{added_zeros, zeros_lie, CanResize}
use Rattle.store_model.proofs.Shows.{or_empty}
use Rattle.store_model.proofs.ShowsGiven.{by, childless_given, shown_given, shown_is}
use Rattle.store_model.proofs.ShowsResized.{IsNoLonger, page_added, volume_resized}
use Rattle.store_model.proofs.Synced.{edited_here, edited_there}
use Rattle.store_model.proofs.Writable.{AllWritable}
use Rattle.shown_volumes.proofs.WithEntry.{given_here, given_elsewhere}

module _ (known : Known) (unmarked : HasNoMarks known.p.base) where
  open known use {first, p, facts}

  module _ (runs : p.stopped ≡ None) (volume : VolumeRef) (slots : ℕ)
      (asked : refusal (fixed_of p.super) (shown p) (c.Resize volume slots) ≡ None) (head : ℕ)
      (found : head_of (fixed_of p.super) (shown p) volume ≡ Some head) (old : Meta) (there : p.base head ≡ Some old)
      (claimed : List ℕ) (least : AreLeastClear p.clusters claimed)
      (one_each : length claimed ≡ length (added_zeros (is_thin old.flags) (length old.map) slots)) (r : Replacing)
      (head_is : r.head ≡ head)
      (new_is : r.new ≡ Some (with_clusters (resized_meta old slots)
      (added_zeros (is_thin old.flags) (length old.map) slots) claimed)) (not_made : r.makes ≡ false) where
    well : RunsWell first p
    well = facts.well runs

    abbrev f : Fixed
    f = fixed_of p.super

    abbrev zeros : List ℕ
    zeros = added_zeros (is_thin old.flags) (length old.map) slots

    -- the new metadata, without claimed clusters and with them
    abbrev bare : Meta
    bare = resized_meta old slots

    abbrev new : Meta
    new = with_clusters bare zeros claimed

    abbrev all : Metas
    all = with_entry p.base head new

    abbrev renews : List ℕ
    renews = if nat_lt slots (length old.map) then head ∷ [] else []

    abbrev commit : Committing
    commit = record { reply = r_.Ok; live = None; renews = renews }

    -- ---- the metadata

    can : CanResize f (shown p) slots (by p (base_steady known unmarked) p.base (or_empty (p.live head)) head old)
    can = before.can known unmarked runs volume slots asked head found old there claimed least one_each

    no_longer : length old.map < slots → IsNoLonger p.base old (length old.map)
    no_longer = before.no_longer known unmarked runs volume slots asked head found old there claimed least one_each

    childless : IsChildless p.base head
    childless = before.childless known unmarked runs volume slots asked head found old there claimed least one_each

    all_empty : AreEmpty bare zeros
    all_empty = before.all_empty known unmarked runs volume slots asked head found old there claimed least one_each

    zeroed : IsZeroed bare new claimed
    zeroed = before.zeroed known unmarked runs volume slots asked head found old there claimed least one_each

    one_steady : IsSteady p.super head new
    one_steady = before.one_steady known unmarked runs volume slots asked head found old there claimed least one_each

    steady : AreSteady p.super all
    steady = before.steady known unmarked runs volume slots asked head found old there claimed least one_each

    base_now : replaced p.base r ≡ all
    base_now = base_is known unmarked head new one_steady r head_is new_is

    renews_there : (b : Bool) → AllByRecursion (λ h. IsSome (replaced p.base r h)) (if b then head ∷ [] else [])
    renews_there false = tt
    renews_there true =
        (ap (λ (m : Metas). is_some (m head)) base_now ∙ ap is_some (given_here p.base head new head refl), tt)

    -- ---- what every image shows

    module _ (image : Image) where
      abbrev now : StoreState
      now = reading p image

      abbrev edit : Volume → Volume
      edit y = record y { pages = resized f y.pages slots }

      abbrev w : Volumes
      w = change f (shown now) (c.Resize volume slots) r_.Ok

      found_now : head_of f (shown now) volume ≡ Some head
      found_now = same_named f (shown now) (shown p) (blank_reading p image) (c.Resize volume slots) ∙ found

      here : w head ≡ option_map edit (shown now head)
      here = edited_here f (shown now) (head_of f (shown now) volume) edit head found_now

      others : (h : ℕ) → h ≢ head → w h ≡ shown now h
      others h ne = edited_there f (shown now) (head_of f (shown now) volume) edit head found_now h ne

      abbrev y : Volume
      y = by now (base_steady known unmarked) p.base (or_empty (p.live head)) head old

      was_now : shown now head ≡ Some y
      was_now = shown_is now (base_steady known unmarked) head
          ∙ ap (λ o. option_map (by now (base_steady known unmarked) p.base (or_empty (p.live head)) head) o) there

      is_now : w head ≡ Some (edit y)
      is_now = here ∙ ap (option_map edit) was_now

      -- attributes are read as they were
      live_same : (h : ℕ) → live_of w h ≡ p.live h
      live_same h = elim (cases_eq h head) [
        | inl e ↦ ap (live_of w) e ∙ ap (λ o. option_map (λ (v : Volume). v.live) o) (is_now)
            ∙ sym (ap (λ o. option_map (λ (v : Volume). v.live) o) was_now)
            ∙ live_shown now well.live well.no_live head ∙ sym (ap p.live e)
        | inr ne ↦ ap (λ o. option_map (λ (v : Volume). v.live) o) (others h ne)
            ∙ live_shown now well.live well.no_live h
      ]

      -- a slot that gets a cluster of zeros is one of those that are added, and showed zeros
      were_zeros : (q : ℕ) → IsZeroedAt bare new claimed (q / f.cluster_pages)
          → content f.cluster_pages image (with_entry p.base head bare) (suc f.md_len) head q ≡ zero_page
      were_zeros q x = elim (cases_Bool (is_among (q / f.cluster_pages) zeros)) [
        | inl among ↦
            let at = zeros_lie (is_thin old.flags) (length old.map) slots (q / f.cluster_pages) among in
            let behind = at.0 in
            let below = at.1 in
            page_added f.cluster_pages (some_pages known) p.base head old there childless image f.md_len slots
            (no_longer (omega (arith, behind, below))) q behind below
        | inr out ↦
            absurd (let bad = sym x.empty ∙ sym (other_slot bare zeros claimed (q / f.cluster_pages) out) ∙ x.at in
            cc bad)
      ]

      shows_new : ReadsZeros p.super claimed image → shown_of p.super (replaced p.base r) (live_of w) image ≡ w
      shows_new holds =
          ap (λ (m : Metas). shown_of p.super m (live_of w) image) base_now
          ∙ shown_given now (base_steady known unmarked) head new childless steady w others
          (ap (λ o. Some (by now (base_steady known unmarked) all (or_empty o) head new)) (live_same head)
          ∙ ap (λ (v : Volume). Some v)
          (volume_zeroed f.cluster_pages image f.md_len bare new claimed zeroed
          (zeros_read known claimed image holds) (with_entry p.base head bare) all head
          (given_here p.base head bare head refl) (given_here p.base head new head refl)
          (λ h ne. given_elsewhere p.base head new h ne ∙ sym (given_elsewhere p.base head bare h ne))
          (childless_given p.base head bare childless (λ q of. childless head q old there of)) were_zeros
          (or_empty (p.live head))
          ∙ volume_resized f.cluster_pages (some_pages known) p.base head old there childless image
          f.md_len slots f refl no_longer (or_empty (p.live head)))
          ∙ sym is_now)

      allowed : Allowed f (shown now) (c.Resize volume slots) r_.Ok
      allowed = (same_refusal f (shown now) (shown p) (blank_reading p image) (c.Resize volume slots) ∙ asked, tt)

      writable : AllWritable w
      writable h v is = elim (cases_eq h head) [
        | inl e ↦
            let same : edit y ≡ v = let both = sym is_now ∙ sym (ap w e) ∙ is in cc both in
            subst (λ (u : Volume). CanBeWritten u.live) same (live_writable now well.live head y was_now)
        | inr ne ↦ live_writable now well.live h v (sym (others h ne) ∙ is)
      ]

    -- its empty slots, if none is cut, and those of others show what they showed
    left_empty : (h : ℕ) → is_among h renews ≡ false → LeavesSlotsEmpty p.super p.base all Anything h
    left_empty h out = elim (cases_eq h head) [
      | inl e ↦ subst (LeavesSlotsEmpty p.super p.base all Anything) (sym e)
          (leaves_given p.super p.base head old there childless new (ap (λ (m : Meta). parent_of m) zeroed.rest)
          (λ i none. resized_empty old slots (elim (cases_lt slots (length old.map)) [
            | inl cut ↦ absurd (false≢true (sym (subst (λ n. is_among n renews ≡ false) e out)
                ∙ ap (λ b. is_among head (if b then head ∷ [] else [])) (lt-ltb _ _ cut) ∙ among_first head []))
            | inr le ↦ le
          ]) i (elim (zeroed.each i) [
            | inl same ↦ sym same ∙ none
            | inr filled ↦ absurd (let bad = sym none ∙ filled.at in cc bad)
          ])))
      | inr ne ↦ leaves_elsewhere p.super p.base head new childless h ne
    ]

    step : IsStep (ReadsZeros p.super claimed) p.super p.base r p.live (c.Resize volume slots) commit
    step = record {
      metadata = tt;
      done = tt;
      allowed = allowed;
      may_fail = λ image. tt;
      shows = shows_new;
      lives = λ image. fun_ext (live_same image);
      writable = writable;
      renews = renews_there (nat_lt slots (length old.map));
      numbers = λ makes. absurd (false≢true (sym not_made ∙ makes));
      leaves = λ h out.
          leaves_resolved p.super p.base (replaced p.base r) Anything h (base_steady known unmarked)
          (subst (AreSteady p.super) (sym base_now) steady)
          (subst (λ (m : Metas). LeavesSlotsEmpty p.super p.base m Anything h) (sym base_now) (left_empty h out));
    }

    pub ready : IsReady p claimed (c.Resize volume slots) commit new r
    ready = ready_by known unmarked head new one_steady r head_is new_is claimed (c.Resize volume slots) commit
        (before.all_lawful known unmarked runs volume slots asked head found old there claimed least one_each)
        (before.all_few known unmarked runs volume slots asked head found old there claimed least one_each) step

  -- what a resize asks for is ready, with the clusters that are claimed for it
  pub resize_ready : p.stopped ≡ None → (command : Command) (changes : Changes) (commit : Committing)
      → (asks : IsResizeJob p command changes commit) → (claimed : List ℕ) → AreLeastClear p.clusters claimed
      → length claimed ≡ length (added_zeros (is_thin asks.old.flags) (length asks.old.map) asks.slots)
      → (r : Replacing) → r.head ≡ asks.head
      → r.new ≡ Some (with_clusters (resized_meta asks.old asks.slots)
      (added_zeros (is_thin asks.old.flags) (length asks.old.map) asks.slots) claimed) → r.makes ≡ false
      → IsReady p claimed command commit (with_clusters (resized_meta asks.old asks.slots)
      (added_zeros (is_thin asks.old.flags) (length asks.old.map) asks.slots) claimed) r
  resize_ready runs command changes commit asks claimed least one_each r head_is new_is not_made =
      let new = with_clusters (resized_meta asks.old asks.slots)
      (added_zeros (is_thin asks.old.flags) (length asks.old.map) asks.slots) claimed in
      let one = ready runs asks.volume asks.slots
      (ap (refusal (fixed_of p.super) (shown p)) (sym asks.command_is) ∙ asks.asked) asks.head
      (ap (named_head (fixed_of p.super) (shown p)) (sym asks.command_is) ∙ asks.found) asks.old asks.there
      claimed least one_each r head_is new_is not_made in
      subst (λ (x : Command). IsReady p claimed x commit new r) (sym asks.command_is)
      (subst (λ (x : Committing). IsReady p claimed (c.Resize asks.volume asks.slots) x new r) (sym asks.commit_is) one)
