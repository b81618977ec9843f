-- The replacements of a job laid on pages, each over what the ones before it leave, whatever the job.
use Rattle.std.proofs.Common.{◌≡◌, ◌∙◌, ℕ, Bool, true, false, List, [], ◌∷◌, ◌++◌, drop, length, map, take}
use Rattle.std.proofs.Common.{Option, None, Some, refl, sym, ap, subst, arith, inl, inr}
use Rattle.std.specs.Prelude.{if◌then◌else◌, is_some, not}
use Rattle.std.specs.List.{flat_map, AllByRecursion}
use Rattle.std.specs.Option.{option_map_or}
use Rattle.std.proofs.lemmas.Bool.{both_ways, cases_eq}
use Rattle.std.proofs.lemmas.List.{length-drop, length-take-le, take-append-drop}
use Rattle.bit_array.specs.Bits.{is_in}
use Rattle.super_block.specs.Placed.{IsPlaced}
use Rattle.super_block.specs.declared.page.Super.{Super}
use Rattle.md_chain.specs.Packing.{parts_of}
use Rattle.md_chain.proofs.Fitting.{some_parts}
use Rattle.store_model.specs.Jobs.{AreLaid, IsLaid, MovesClusters}
use Rattle.store_model.specs.Maps.{with_option, Chains, Metas}
use Rattle.store_model.specs.Phases.{taken_by}
use Rattle.store_model.specs.Places.{all_set, AreLeastClear}
use Rattle.store_model.specs.Steady.{IsStored}
use Rattle.store_model.proofs.Sets.{length_all_set}
use Rattle.store_model.proofs.WithEntry.{option_elsewhere, option_here}
use Rattle.running_store.specs.Jobs.{erases_laid, writes_laid}
use Rattle.running_store.specs.declared.replacements.Erasure.{Erasure}
use Rattle.running_store.specs.declared.replacements.LaidReplacement.{LaidReplacement}
use Rattle.job_views.specs.Replacing.{replacing_for}
use Rattle.job_begins.specs.Begins.{behind_in, taken_for, IsFreshHead}
use Rattle.job_begins.specs.Drafts.{draft_needs}
use Rattle.job_begins.specs.JobSteps.{behind, chained, change_of, makes_blob, needs_together, AreLaidOn}
use Rattle.job_begins.specs.JobSteps.{IsWrittenOn, MakesNext}
use Rattle.job_begins.specs.declared.drafts.Draft.{Draft}
use Rattle.job_begins.specs.declared.steps.Step.{Step}
use Rattle.job_begins.specs.declared.steps.Step.TheVariants as step
use Rattle.job_begins.proofs.JobPlaces.{some_taken, taken_in_use, taken_is}
use Rattle.job_begins.proofs.ListBegins.{least_first, least_others, replacings}
use Rattle.job_begins.proofs.ListParts.{in_use_still, part_planned, planned_as, planned_of}
use Rattle.job_begins.proofs.StepsOver.{base_with, AreOver, IsOver}

module _ (s : Super) (placed : IsPlaced s) where
  -- What is written can be stored, and clusters are freed and gained as the maps change.
  abbrev pub Moves : Metas → List ℕ → Step → Type 0
  Moves base claimed (step.Writes x) =
      IsStored s x.head x.new × MovesClusters s base (with_option base x.head (Some x.new)) x.effects.freed claimed
  Moves base claimed (step.Erases e) = MovesClusters s base (with_option base e.head None) e.freed claimed

  abbrev pub AllMove : Metas → List ℕ → List Step → Type 0
  AllMove base claimed [] = Unit {0}
  AllMove base claimed (x ∷ xs) = Moves base claimed x × AllMove (base_with base x) [] xs

  -- Exactly the blobs that are there have chains, and their heads are in use.
  pub record AreChainedOn (base : Metas) (chains : Chains) (bits : List Bool) : Type 0 where
    pub long : length bits ≡ s.md_len
    pub there : (h : ℕ) → is_some (base h) ≡ true → (behind : List ℕ) × (chains h ≡ Some (h ∷ behind))
    pub none : (h : ℕ) → is_some (base h) ≡ false → chains h ≡ None
    pub used : (h : ℕ) → is_some (base h) ≡ true → is_in bits h ≡ true

  -- ---- the chain that stands at a head

  before_is : (chains : Chains) (h : ℕ) (there makes : Bool) → makes ≡ not there
      → (there ≡ true → (behind : List ℕ) × (chains h ≡ Some (h ∷ behind))) → (there ≡ false → chains h ≡ None)
      → chains h ≡ (if makes then None else Some (h ∷ behind chains h))
  before_is chains h true makes e has none =
      let chain = has refl in
      subst (λ (b : Bool). chains h ≡ (if b then None else Some (h ∷ behind chains h))) (sym e)
      (chain.1 ∙ ap (λ (l : List ℕ). Some (h ∷ l))
      (sym (ap (λ (o : Option (List ℕ)). option_map_or (λ c. drop 1 c) o []) chain.1)))
  before_is chains h false makes e has none =
      subst (λ (b : Bool). chains h ≡ (if b then None else Some (h ∷ behind chains h))) (sym e) (none refl)

  none_behind : (chains : Chains) (h : ℕ) (there makes : Bool) → makes ≡ not there
      → (there ≡ false → chains h ≡ None) → makes ≡ true → behind chains h ≡ []
  none_behind chains h true makes e none made = absurd (both_ways makes e made)
  none_behind chains h false makes e none made =
      ap (λ (o : Option (List ℕ)). option_map_or (λ c. drop 1 c) o []) (none refl)

  -- ---- the head is in use behind it

  used_then : (bits : List Bool) (h : ℕ) (part fresh : List ℕ) (there makes : Bool) → makes ≡ not there
      → AreLeastClear bits part → part ≡ taken_for makes h fresh → (there ≡ true → is_in bits h ≡ true)
      → is_in (all_set bits part true) h ≡ true
  used_then bits h part fresh true makes e least is used = in_use_still bits part least h (used refl)
  used_then bits h part fresh false makes e least is used =
      let first : part ≡ h ∷ fresh = is ∙ ap (λ (b : Bool). taken_for b h fresh) e in
      subst (λ (l : List ℕ). is_in (all_set bits l true) h ≡ true) (sym first)
      (taken_in_use bits (h ∷ fresh) (subst (AreLeastClear bits) first least) (all_set bits (h ∷ fresh) true) refl
      0 0 (omega arith))

  -- ---- one that writes

  module _ (base : Metas) (chains : Chains) (bits : List Bool) (known : AreChainedOn base chains bits)
      (claimed : List ℕ) (x : Draft) (over : IsOver base (step.Writes x)) (moves : Moves base claimed (step.Writes x))
      (part : List ℕ) (least : AreLeastClear bits part) (count : length part ≡ draft_needs x)
      (next : is_some x.effects.rooms.chain ≡ true → IsFreshHead bits x.head) (laid : LaidReplacement)
      (on : IsWrittenOn (behind chains x.head) x part laid) where
    abbrev makes : Bool
    makes = is_some x.effects.rooms.chain

    abbrev pub fresh : List ℕ
    fresh = behind_in makes part

    abbrev pub as_laid : LaidReplacement
    as_laid = writes_laid (planned_of x fresh on.on.laid.pages) (behind chains x.head)

    pub written_as : laid ≡ as_laid
    written_as = on.laid_is
        ∙ ap (λ q. writes_laid q (behind chains x.head)) (planned_as x fresh on.planned on.on)

    pub part_is : part ≡ taken_for makes x.head fresh
    part_is = taken_is bits makes x.head part least next
        (some_taken makes (length part) (length (parts_of x.items)) count (some_parts 4072 x.items))

    there_used : makes ≡ false → is_in bits x.head ≡ true
    there_used e = known.used x.head (there (is_some (base x.head)) makes over.1 e)
      where
        there : (b m : Bool) → m ≡ not b → m ≡ false → b ≡ true
        there true m is e = refl
        there false m is e = absurd (both_ways m e is)

    pub is_laid : IsLaid s base chains bits claimed (change_of (step.Writes x))
        (replacing_for as_laid.change as_laid.old)
    is_laid = record {
      head = refl;
      new = refl;
      chain = before_is chains x.head (is_some (base x.head)) makes over.1 (known.there x.head) (known.none x.head);
      unerased = none_behind chains x.head (is_some (base x.head)) makes over.1 (known.none x.head);
      planned = part_planned x fresh on.planned on.on s placed over.0 moves.0 (behind chains x.head) bits known.long
          there_used (subst (AreLeastClear bits) part_is least);
      clusters = moves.1;
    }

    pub known_then : AreChainedOn (with_option base x.head (Some x.new))
        (with_option chains x.head (Some (x.head ∷ fresh))) (all_set bits part true)
    known_then = record {
      long = length_all_set bits part true ∙ known.long;
      there = λ h t. elim (cases_eq h x.head) [
        | inl e ↦ (
          fresh,
          option_here chains x.head (Some (x.head ∷ fresh)) h e ∙ ap (λ (k : ℕ). Some (k ∷ fresh)) (sym e),
        )
        | inr ne ↦
            let had = known.there h (sym (ap is_some (option_elsewhere base x.head (Some x.new) h ne)) ∙ t) in
            (had.0, option_elsewhere chains x.head (Some (x.head ∷ fresh)) h ne ∙ had.1)
      ];
      none = λ h t. elim (cases_eq h x.head) [
        | inl e ↦ absurd (both_ways (is_some (with_option base x.head (Some x.new) h)) t
            (ap is_some (option_here base x.head (Some x.new) h e)))
        | inr ne ↦ option_elsewhere chains x.head (Some (x.head ∷ fresh)) h ne
            ∙ known.none h (sym (ap is_some (option_elsewhere base x.head (Some x.new) h ne)) ∙ t)
      ];
      used = λ h t. elim (cases_eq h x.head) [
        | inl e ↦ subst (λ (k : ℕ). is_in (all_set bits part true) k ≡ true) (sym e)
            (used_then bits x.head part fresh (is_some (base x.head)) makes over.1 least part_is (known.used x.head))
        | inr ne ↦ in_use_still bits part least h
            (known.used h (sym (ap is_some (option_elsewhere base x.head (Some x.new) h ne)) ∙ t))
      ];
    }

  -- ---- one that erases

  erased_then : (base : Metas) (chains : Chains) (bits : List Bool) → AreChainedOn base chains bits → (e : Erasure)
      → AreChainedOn (with_option base e.head None) (with_option chains e.head None) bits
  erased_then base chains bits known e = record {
    long = known.long;
    there = λ h t. elim (cases_eq h e.head) [
      | inl same ↦ absurd (both_ways (is_some (with_option base e.head None h))
          (ap is_some (option_here base e.head None h same)) t)
      | inr ne ↦
          let had = known.there h (sym (ap is_some (option_elsewhere base e.head None h ne)) ∙ t) in
          (had.0, option_elsewhere chains e.head None h ne ∙ had.1)
    ];
    none = λ h t. elim (cases_eq h e.head) [
      | inl same ↦ option_here chains e.head None h same
      | inr ne ↦ option_elsewhere chains e.head None h ne
          ∙ known.none h (sym (ap is_some (option_elsewhere base e.head None h ne)) ∙ t)
    ];
    used = λ h t. elim (cases_eq h e.head) [
      | inl same ↦ absurd (both_ways (is_some (with_option base e.head None h))
          (ap is_some (option_here base e.head None h same)) t)
      | inr ne ↦ known.used h (sym (ap is_some (option_elsewhere base e.head None h ne)) ∙ t)
    ];
  }

  -- ---- all of them

  -- What the model asks of them, on the places that are taken.
  pub record AreLaidWell (base : Metas) (chains : Chains) (bits : List Bool) (claimed : List ℕ) (steps : List Step)
      (taken : List ℕ) (list : List LaidReplacement) : Type 0 where
    pub takes : flat_map taken_by (replacings list) ≡ taken
    pub laid : AreLaid s base chains bits claimed (map change_of steps) (replacings list)

  stays_next : (bits : List Bool) (steps : List Step) → AllByRecursion (λ y. makes_blob y ≡ false) steps
      → MakesNext bits steps
  stays_next bits [] all = tt
  stays_next bits (x ∷ xs) all = ((λ makes. absurd (both_ways (makes_blob x) all.0 makes)), all.1)

  nothing : (taken : List ℕ) → length taken ≡ 0 → taken ≡ []
  nothing [] is = refl
  nothing (x ∷ xs) is = absurd (cc is)

  -- Laid one after another on the least clear pages, taken at once, they are laid as the model has it.
  pub list_laid : (base : Metas) (chains : Chains) (bits : List Bool) → AreChainedOn base chains bits
      → (claimed : List ℕ) (steps : List Step) → AreOver base steps → AllMove base claimed steps
      → MakesNext bits steps → (taken : List ℕ) → AreLeastClear bits taken → length taken ≡ needs_together steps
      → (laid : List LaidReplacement) → AreLaidOn chains steps taken laid
      → AreLaidWell base chains bits claimed steps taken laid
  list_laid base chains bits known claimed [] over moves next taken least count laid on =
      subst (AreLaidWell base chains bits claimed [] taken) (sym on)
      (record { takes = sym (nothing taken count); laid = tt })
  list_laid base chains bits known claimed (x ∷ xs) over moves next taken least count [] on = absurd on
  list_laid base chains bits known claimed (step.Writes x ∷ xs) over moves next taken least count (l ∷ ls) on =
      let n = draft_needs x in
      let part = take n taken in
      let both : taken ≡ part ++ drop n taken = sym (take-append-drop n taken) in
      let least_both : AreLeastClear bits (part ++ drop n taken) = subst (AreLeastClear bits) both least in
      let least_part = least_first bits part (drop n taken) least_both in
      let part_long : length part ≡ n = length-take-le n taken (omega (arith, count)) in
      let rest_long : length (drop n taken) ≡ needs_together xs =
      let long = length-drop n taken in omega (arith, long, count) in
      let is = written_as base chains bits known claimed x over.0 moves.0 part least_part part_long next.0 l on.0 in
      let one = is_laid base chains bits known claimed x over.0 moves.0 part least_part part_long next.0 l on.0 in
      let then_is = known_then base chains bits known claimed x over.0 moves.0 part least_part part_long next.0 l on.0 in
      let places = part_is base chains bits known claimed x over.0 moves.0 part least_part part_long next.0 l on.0 in
      let y = as_laid base chains bits known claimed x over.0 moves.0 part least_part part_long next.0 l on.0 in
      let rest = list_laid (base_with base (step.Writes x)) (chained chains y.change) (all_set bits part true) then_is
      [] xs over.1 moves.1 (stays_next (all_set bits part true) xs next.1) (drop n taken)
      (least_others bits part (drop n taken) least_both) rest_long ls
      (subst (λ (z : LaidReplacement). AreLaidOn (chained chains z.change) xs (drop n taken) ls) is on.1) in
      subst (λ (z : LaidReplacement). AreLaidWell base chains bits claimed (step.Writes x ∷ xs) taken (z ∷ ls)) (sym is)
      (record {
        takes = ap (λ (ps : List ℕ). ps ++ flat_map taken_by (replacings ls)) (sym places)
            ∙ ap (λ (ps : List ℕ). part ++ ps) rest.takes ∙ sym both;
        laid = (
          one,
          subst (λ (ps : List ℕ). AreLaid s (base_with base (step.Writes x)) (chained chains y.change)
              (all_set bits ps true) [] (map change_of xs) (replacings ls)) places rest.laid,
        );
      })
  list_laid base chains bits known claimed (step.Erases e ∷ xs) over moves next taken least count (l ∷ ls) on =
      let y = erases_laid e (behind chains e.head) in
      let rest = list_laid (with_option base e.head None) (with_option chains e.head None) bits
      (erased_then base chains bits known e) [] xs over.1 moves.1 (stays_next bits xs next.1) taken least
      (omega (arith, count)) ls
      (subst (λ (z : LaidReplacement). AreLaidOn (chained chains z.change) xs taken ls) on.0 on.1) in
      subst (λ (z : LaidReplacement). AreLaidWell base chains bits claimed (step.Erases e ∷ xs) taken (z ∷ ls))
      (sym on.0)
      (record {
        takes = rest.takes;
        laid = (
          record {
            head = refl;
            new = refl;
            chain = before_is chains e.head (is_some (base e.head)) false (ap not (sym over.0))
                (known.there e.head) (known.none e.head);
            unerased = λ bad. absurd (cc bad);
            planned = (refl, refl, refl);
            clusters = moves.0;
          },
          rest.laid,
        );
      })
