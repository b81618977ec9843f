-- What a create asks for: a steady blob, and what each image shows with it.
use Rattle.std.proofs.Common.{◌≡◌, ℕ, ◌+◌, ◌<◌, ◌≤◌, ◌^◌, Bool, true, false, List, [], ◌∷◌, length}
use Rattle.std.proofs.Common.{Option}
use Rattle.std.proofs.Common.{Some, None, refl, sym, ap, ◌∙◌, subst, arith}
use Rattle.std.specs.Prelude.{if◌then◌else◌, is_some}
use Rattle.md_chain.specs.Chain.{is_among}
use Rattle.std.specs.List.{range_with_len}
use Rattle.std.specs.Option.{option_map}
use Rattle.std.proofs.lemmas.Bool.Decides.{nat_tests}
use Rattle.std.proofs.lemmas.List.{length-replicate}
use Rattle.page_disk.specs.Disk.{Image}
use Rattle.volume_model.specs.Volumes.{all_slots, Fixed, two_xattrs, Volume, Volumes}
use Rattle.volume_model.specs.Xattrs.{Text, Xattrs}
use Rattle.volume_model.specs.Refusals.{is_taken, is_too_large, refusal}
use Rattle.volume_model.specs.Steps.{Allowed, change}
use Rattle.volume_model.specs.declared.command.Command.{Command}
use Rattle.volume_model.specs.declared.command.Command.TheVariants as c
use Rattle.volume_model.specs.declared.reply.Reply.TheVariants as r_
use Rattle.volume_model.proofs.Blank.{same_refusal}
use Rattle.blob_meta.specs.declared.meta.Meta.{Meta}
use Rattle.blob_meta.specs.declared.job.Job.{Job as Changes}
use Rattle.blob_meta.specs.Jobs.{new_meta}
use Rattle.blob_meta.specs.Repairs.{HasNoMarks}
use Rattle.blob_meta.specs.Resolving.{resolved, slots_together, IsLawful}
use Rattle.store_model.specs.Maps.{Metas, with_entry}
use Rattle.store_model.specs.Shown.{fixed_of}
use Rattle.store_model.specs.Phases.{Committing, replaced, Replacing}
use Rattle.store_model.specs.StoreState.{live_of, shown, StoreState}
use Rattle.store_model.specs.Asking.{IsCreateJob}
use Rattle.store_model.proofs.ShowsGiven.{none_childless}
use Rattle.store_model.proofs.EmptySlots.{Anything, leaves_elsewhere, leaves_resolved}
use Rattle.store_model.specs.Copying.{LeavesSlotsEmpty}
use Rattle.store_model.specs.Jobs.{IsStep, ReadsZeros, shown_of, with_clusters}
use Rattle.store_model.specs.Steady.{AreSteady, CanBeWritten, IsSteady}
use Rattle.store_model.specs.RunInvariant.{RunsWell}
use Rattle.store_model.proofs.Known.{Known}
use Rattle.store_model.proofs.Meanwhile.{blank_reading, reading}
use Rattle.store_model.proofs.ChangedLive.{lives_changed, made_commit, writable_changed}
use Rattle.store_model.proofs.NewBlob.{empty_slot, new_takes_none, two_written}
use Rattle.store_model.proofs.ClaimedZeros.{claimed_inside, zeroed_fresh, zeroed_is, zeros_read}
use Rattle.store_model.proofs.InARow.{among_range, range_among, range_differs}
use Rattle.store_model.proofs.ZeroSlots.{filled_slot, AreEmpty}
use Rattle.store_model.proofs.ZeroedBlob.{all_filled, lawful_zeroed, new_but, zeroed_steady, IsZeroed}
use Rattle.blob_meta.specs.declared.fault.MetaFault.TheVariants.{HoleInThick}
use Rattle.blob_meta.specs.Faults.{hole_in_thick}
use Rattle.blob_meta.specs.Parents.{slot}
use Rattle.store_model.specs.Places.{AreDistinct, AreLeastClear, IsMapped}
use Rattle.store_model.proofs.OneReplacement.{all_steady, base_is, base_lawful, base_steady, base_resolved, IsReady}
use Rattle.store_model.proofs.OneReplacement.{lawful_still, ready_by, some_pages}
use Rattle.store_model.proofs.ShowsNew.{live_here, shown_made, w_elsewhere}
use Rattle.shown_volumes.proofs.SlotSums.{all_shown, slots_given, slots_in}
use Rattle.shown_volumes.proofs.Blanked.{two_same}
use Rattle.shown_volumes.proofs.Passing.{none_holds}
use Rattle.store_model.proofs.Writable.{AllWritable}
use Rattle.shown_volumes.proofs.WithEntry.{given_here}
use Rattle.store_model.proofs.Sets.{among_first, not_first}

-- the slots of a new blob that get clusters of zeros
abbrev pub new_zeros : Bool → ℕ → List ℕ
new_zeros thick slots = if thick then range_with_len 0 slots else []

-- a create that isn't too large
record Fits (f : Fixed) (v : Volumes) (slots : ℕ) : Type 0 where
  alone : slots ≤ 2 ^ 20
  together : all_slots f v + slots ≤ 2 ^ 24

fits : (f : Fixed) (v : Volumes) (name : Text) (slots : ℕ) (thick : Bool) (uuid : Option (List ℕ))
    → refusal f v (c.Create name slots thick uuid) ≡ None → Fits f v slots
fits f v name slots thick uuid asked =
    let none = none_holds ((is_taken f v name, r_.NameTaken)
    ∷ (is_too_large f v slots (all_slots f v), r_.TooLarge) ∷ []) asked in
    let large : is_too_large f v slots (all_slots f v) ≡ false = none.1.0 in
    record { alone = grind (arith, nat_tests, large); together = grind (arith, nat_tests, large) }

module _ (known : Known) (unmarked : HasNoMarks known.p.base) where
  open known use {first, p, facts}

  module _ (runs : p.stopped ≡ None) (name : Text) (slots : ℕ) (thick : Bool) (uuid : Option (List ℕ))
      (claimed : List ℕ) (least : AreLeastClear p.clusters claimed)
      (one_each : length claimed ≡ length (new_zeros thick slots)) (xattrs : Xattrs) (can : CanBeWritten xattrs)
      (are : two_xattrs (fixed_of p.super) (shown p) name uuid ≡ xattrs)
      (asked : refusal (fixed_of p.super) (shown p) (c.Create name slots thick uuid) ≡ None) (head : ℕ)
      (none : p.base head ≡ None) (low : head < p.super.md_len) (r : Replacing) (head_is : r.head ≡ head)
      (new_is : r.new ≡ Some (with_clusters (new_meta head xattrs thick slots) (new_zeros thick slots) claimed)) where
    well : RunsWell first p
    well = facts.well runs

    -- the new metadata, without clusters and with them
    abbrev bare : Meta
    bare = new_meta head xattrs thick slots

    abbrev new : Meta
    new = with_clusters bare (new_zeros thick slots) claimed

    abbrev all : Metas
    all = with_entry p.base head new

    abbrev commit : Committing
    commit = made_commit head xattrs

    zeros_differ : (b : Bool) → AreDistinct (new_zeros b slots)
    zeros_differ true = range_differs 0 slots
    zeros_differ false = tt

    zeros_low : (b : Bool) (i : ℕ) → is_among i (new_zeros b slots) ≡ true → i < slots
    zeros_low true i among = let lt = (among_range 0 slots i among).1 in omega (arith, lt)
    zeros_low false i among = absurd (cc among)

    all_empty : AreEmpty bare (new_zeros thick slots)
    all_empty i among = (
      subst (λ n. i < n) (sym (length-replicate {A = Option ℕ} slots None)) (zeros_low thick i among),
      empty_slot slots i,
    )

    no_cluster : (i c : ℕ) → slot bare i ≡ Some c → IsMapped p.base c
    no_cluster i c at = absurd (let bad = sym (empty_slot slots i) ∙ at in cc bad)

    zeroed : IsZeroed bare new claimed
    zeroed = zeroed_is known runs claimed least head bare (new_zeros thick slots) (zeros_differ thick) all_empty
        no_cluster

    few : Fits (fixed_of p.super) (shown p) slots
    few = fits (fixed_of p.super) (shown p) name slots thick uuid asked

    one_steady : IsSteady p.super head new
    one_steady = zeroed_steady p.super head bare new claimed zeroed
        (new_but p.super head xattrs thick slots low can few.alone) (claimed_inside known runs claimed least)
        (no_hole thick refl)
      where
        no_hole : (b : Bool) → b ≡ thick → hole_in_thick (new_meta head xattrs b slots).flags new.map ≡ None
        no_hole false is = refl
        no_hole true is = ap (λ o. option_map HoleInThick o) (all_filled new.map (λ i lt.
            let filled : (b : Bool) → true ≡ b → is_among i (new_zeros b slots) ≡ true =
            λ b e. subst (λ b. is_among i (new_zeros b slots) ≡ true) e
            (range_among 0 slots i (omega arith)
            (omega (arith, lt, zeroed.long, length-replicate {A = Option ℕ} slots None))) in
            filled_slot bare (new_zeros thick slots) claimed (zeros_differ thick) all_empty one_each i
            (filled thick is)))

    steady : AreSteady p.super all
    steady = all_steady known unmarked head new one_steady

    few_with : (m : Meta) → length m.map ≡ slots → slots_together p.super.md_len (with_entry p.base head m) ≤ 2 ^ 24
    few_with m long =
        let counted : slots_together p.super.md_len (with_entry p.base head m) + 0
        ≡ slots_together p.super.md_len p.base + length m.map =
        ap (λ o. slots_together p.super.md_len (with_entry p.base head m) + slots_in o) (sym none)
        ∙ slots_given p.super.md_len p.base head m low in
        let shows : all_slots (fixed_of p.super) (shown p) ≡ slots_together p.super.md_len p.base =
        all_shown (fixed_of p.super) p.device.reads (resolved p.base)
        (some_pages known) p.live ∙ ap (slots_together p.super.md_len) (base_resolved known unmarked) in
        omega (arith, counted, shows, few.together, long)

    bare_few : slots_together p.super.md_len (with_entry p.base head bare) ≤ 2 ^ 24
    bare_few = few_with bare (length-replicate {A = Option ℕ} slots None)

    all_few : slots_together p.super.md_len all ≤ 2 ^ 24
    all_few = few_with new (zeroed.long ∙ length-replicate {A = Option ℕ} slots None)

    all_lawful : IsLawful p.super.md_len all
    all_lawful = lawful_zeroed p.super.md_len p.base head bare new claimed zeroed
        (zeroed_fresh known runs claimed least head bare (new_zeros thick slots) (zeros_differ thick) all_empty
        no_cluster)
        (lawful_still known unmarked head bare (new_takes_none p.base head xattrs thick slots none) bare_few) all_few

    base_now : replaced p.base r ≡ all
    base_now = base_is known unmarked head new one_steady r head_is new_is

    -- ---- what every image shows

    module _ (image : Image) where
      abbrev there : StoreState
      there = reading p image

      abbrev w : Volumes
      w = change (fixed_of p.super) (shown there) (c.Create name slots thick uuid) (r_.Made head)

      same_two : two_xattrs (fixed_of p.super) (shown there) name uuid ≡ xattrs
      same_two = two_same (fixed_of p.super) (shown there) (shown p) (blank_reading p image) name uuid ∙ are

      free : shown there head ≡ None
      free = rw none refl

      allowed : Allowed (fixed_of p.super) (shown there) (c.Create name slots thick uuid) (r_.Made head)
      allowed = (
        same_refusal (fixed_of p.super) (shown there) (shown p) (blank_reading p image)
            (c.Create name slots thick uuid) ∙ asked,
        (low, free),
      )

      shows_new : ReadsZeros p.super claimed image → shown_of p.super (replaced p.base r) (live_of w) image ≡ w
      shows_new holds = ap (λ (m : Metas). shown_of p.super m (live_of w) image) base_now
          ∙ shown_made there (base_steady known unmarked) (base_lawful known unmarked) head none name slots thick uuid
          xattrs same_two new steady claimed zeroed (zeros_read known claimed image holds)

      live_at : live_of w head ≡ Some xattrs
      live_at = live_here there (base_steady known unmarked) (base_lawful known unmarked) head none name slots thick
          uuid xattrs same_two new steady

      others : (h : ℕ) → (h ≡ head → ⊥) → w h ≡ shown there h
      others = w_elsewhere there (base_steady known unmarked) (base_lawful known unmarked) head none name slots thick
          uuid xattrs same_two new steady

      lives_else : (h : ℕ) → (h ≡ head → ⊥) → live_of w h ≡ live_of (shown there) h
      lives_else h ne = ap (λ o. option_map (λ (x : Volume). x.live) o) (others h ne)

      lives : live_of w ≡ with_entry p.live head xattrs
      lives = lives_changed there well.live well.no_live w head (Some xattrs) live_at lives_else

      writable : AllWritable w
      writable = writable_changed there well.live well.no_live w head (Some xattrs) live_at lives_else
          (λ xs is. subst CanBeWritten (cc is) can)

    step : IsStep (ReadsZeros p.super claimed) p.super p.base r p.live (c.Create name slots thick uuid) commit
    step = record {
      metadata = tt;
      done = tt;
      allowed = allowed;
      may_fail = λ image. tt;
      shows = shows_new;
      lives = lives;
      writable = writable;
      renews = (ap (λ (m : Metas). is_some (m head)) base_now ∙ ap is_some (given_here p.base head new head refl), tt);
      numbers = λ makes. subst (λ h. is_among h (head ∷ []) ≡ true) (sym head_is) (among_first head []);
      leaves = λ h out.
          leaves_resolved p.super p.base (replaced p.base r) Anything h (base_steady known unmarked)
          (subst (AreSteady p.super) (sym base_now) steady)
          (subst (λ (m : Metas). LeavesSlotsEmpty p.super p.base m Anything h) (sym base_now)
          (leaves_elsewhere p.super p.base head new
          (none_childless p.base head (base_lawful known unmarked).parents none) h (not_first h head [] out).0));
    }

    pub ready : IsReady p claimed (c.Create name slots thick uuid) commit new r
    ready = ready_by known unmarked head new one_steady r head_is new_is claimed (c.Create name slots thick uuid) commit
        all_lawful all_few step

  -- what a create asks for is ready, with the clusters that are claimed for it, once its head is a place of the region
  pub create_ready : p.stopped ≡ None → (command : Command) (changes : Changes) (commit : Committing)
      → (asks : IsCreateJob p command changes commit) → (claimed : List ℕ) → AreLeastClear p.clusters claimed
      → length claimed ≡ length (new_zeros asks.thick asks.slots) → asks.head < p.super.md_len → (r : Replacing)
      → r.head ≡ asks.head
      → r.new ≡ Some (with_clusters (new_meta asks.head (two_xattrs (fixed_of p.super) (shown p) asks.name asks.uuid)
      asks.thick asks.slots) (new_zeros asks.thick asks.slots) claimed)
      → IsReady p claimed command commit (with_clusters (new_meta asks.head
      (two_xattrs (fixed_of p.super) (shown p) asks.name asks.uuid) asks.thick asks.slots)
      (new_zeros asks.thick asks.slots) claimed) r
  create_ready runs command changes commit asks claimed least one_each low r head_is new_is =
      let xattrs = two_xattrs (fixed_of p.super) (shown p) asks.name asks.uuid in
      let new = with_clusters (new_meta asks.head xattrs asks.thick asks.slots) (new_zeros asks.thick asks.slots)
      claimed in
      let one = ready runs asks.name asks.slots asks.thick asks.uuid
      claimed least one_each xattrs
      (two_written (fixed_of p.super) (shown p) asks.name asks.uuid asks.named) refl
      (ap (refusal (fixed_of p.super) (shown p)) (sym asks.command_is) ∙ asks.asked) asks.head asks.none low r
      head_is new_is in
      subst (λ (x : Command). IsReady p claimed x commit new r) (sym asks.command_is)
      (subst (λ (x : Committing). IsReady p claimed (c.Create asks.name asks.slots asks.thick asks.uuid) x new r)
      (sym asks.commit_is) one)
