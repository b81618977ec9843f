-- What is known of a job that a command asks for, once it is prepared: its slots of zeros, its chain and its pages.
use Rattle.std.proofs.Common.{◌≡◌, ℕ, ◌<◌, Bool, true, false, List, [], ◌∷◌, length, get_or, drop}
use Rattle.std.proofs.Common.{All, Option, Some, None, refl, sym, ◌∙◌, ap, subst, arith, inl, inr}
use Rattle.std.specs.Prelude.{is_some, not}
use Rattle.std.specs.Ordering.{nat_cmp}
use Rattle.std.specs.FinMap as map
use Rattle.std.proofs.lemmas.Bool.{cases_Bool}
use Rattle.bit_array.specs.Bits.{is_in}
use Rattle.super_block.specs.Placed.{IsPlaced}
use Rattle.volume_model.specs.declared.command.Command.{Command}
use Rattle.blob_meta.specs.declared.meta.Meta.{Meta}
use Rattle.blob_meta.specs.Repairs.{HasNoMarks}
use Rattle.blob_meta.specs.Resolving.{mark_of}
use Rattle.store_model.specs.Maps.{with_entry}
use Rattle.store_model.specs.StoreState.{StoreState}
use Rattle.store_model.specs.Places.{held_by, AreLeastClear, UsedPages}
use Rattle.store_model.specs.Jobs.{with_clusters, MovesClusters}
use Rattle.store_model.specs.RunInvariant.{RunsWell}
use Rattle.shown_volumes.specs.StoredLaws.{IsStoredWell}
use Rattle.store_model.proofs.ClaimedZeros.{claimed_free, zeroed_is}
use Rattle.store_model.proofs.Known.{Known}
use Rattle.store_model.proofs.Sets.{among_first}
use Rattle.store_model.proofs.ZeroSlots.{each_claimed}
use Rattle.job_begins.specs.Begins.{taken_for, AsksToWrite, IsPrepared, IsTaken}
use Rattle.running_store.specs.Effects.{cut_clusters}
use Rattle.running_store.specs.RunningState.{IsRunning}
use Rattle.job_begins.specs.declared.preparing.Prepared.{Prepared}
use Rattle.running_store.proofs.Cleared.{among_get}
use Rattle.job_begins.proofs.FilledMoves.{filled_moves}
use Rattle.job_begins.proofs.SlotsOfZeros.{can_be_filled, filled_mark, CanBeFilled}
use Rattle.job_begins.proofs.JobPlanned.{IsReady}
use Rattle.job_begins.proofs.LaidOn.{ready_on}
use Rattle.job_begins.proofs.JobAsked.{asked, known as known_store, stored_well}

module _ (p : StoreState) (running : IsRunning p) (clean : HasNoMarks p.base) (runs : p.stopped ≡ None)
    (command : Command) (head : ℕ) (new : Meta)
    (zeros : List ℕ) (asks : AsksToWrite p command head new zeros) where
  abbrev known : Known
  known = known_store p running clean runs command head new zeros asks

  well : RunsWell running.first p
  well = running.facts.well runs

  -- ---- its slots of zeros

  pub fillable : CanBeFilled p.base new zeros
  fillable = can_be_filled p command head new zeros asks.commit asks.asked

  -- each of them is a slot of the new map
  pub zeros_within : All (λ i. i < length new.map) zeros
  zeros_within k d lt = (fillable.empty (get_or zeros k d) (among_get zeros k d lt)).0

  placed : IsPlaced p.super
  placed = subst IsPlaced (sym running.facts.super) running.placed

  -- cluster 0 is none that a slot can hold
  pub first_in_use : is_in p.clusters 0 ≡ true
  first_in_use = well.clusters.fixed 0 placed.some_fixed
      (let some = placed.some_fixed in let le = placed.fixed_clusters in omega (arith, some, le))

  module _ (claimed : List ℕ) (least : AreLeastClear p.clusters claimed)
      (one_each : length claimed ≡ length zeros) where
    -- the clusters that are claimed for these slots are in the map then, and all else moves as without them
    pub moves_filled : MovesClusters p.super p.base (with_entry p.base head (with_clusters new zeros claimed))
        (cut_clusters (p.base head) new) claimed
    moves_filled = filled_moves p.super p.base head new (with_clusters new zeros claimed)
        (cut_clusters (p.base head) new) claimed (asked p running clean runs command head new zeros asks).moves
        (zeroed_is known runs claimed least head new zeros fillable.distinct fillable.empty fillable.had)
        (each_claimed new zeros claimed fillable.distinct fillable.empty one_each)
        (claimed_free known runs claimed least)

  -- ---- its chain

  chain_where : (there : Bool) → is_some (p.chains head) ≡ there → is_some (p.base head) ≡ there
  chain_where there is = by (p.base head) refl
    where
      by : (o : Option Meta) → p.base head ≡ o → is_some (p.base head) ≡ there
      by None none = ap is_some none ∙ sym (ap is_some (well.chains.none head none)) ∙ is
      by (Some m) some = ap is_some some ∙ sym (ap is_some (well.chains.chain head m some).1) ∙ is

  -- a blob has one exactly where it is there
  pub there_is : is_some (p.base head) ≡ is_some (p.chains head)
  there_is = chain_where (is_some (p.chains head)) refl

  pub has_chain : is_some (p.chains head) ≡ true → (behind : List ℕ) × (p.chains head ≡ Some (head ∷ behind))
  has_chain some = by (p.base head) refl
    where
      by : (o : Option Meta) → p.base head ≡ o → (behind : List ℕ) × (p.chains head ≡ Some (head ∷ behind))
      by None none = absurd (let bad = sym (there_is ∙ some) ∙ ap is_some none in cc bad)
      by (Some m) there = well.chains.chain head m there

  -- ---- laid on pages

  module _ (no_job : p.job ≡ None) (makes : Bool) (was : is_some (p.chains head) ≡ not makes) where
    used : UsedPages p.super.md_len p.pages p.chains []
    used = subst (UsedPages p.super.md_len p.pages p.chains) (ap held_by no_job) well.pages

    chain_there : makes ≡ false → (behind : List ℕ) × (p.chains head ≡ Some (head ∷ behind))
    chain_there e = has_chain (was ∙ ap not e)

    -- the head of a blob that is there is in use
    in_use : makes ≡ false → is_in p.pages head ≡ true
    in_use e =
        let chain = chain_there e in
        used.linked head (record {
          head = head;
          pages = head ∷ chain.0;
          chain = chain.1;
          among = among_first head chain.0;
        })

    module _ (fresh : List ℕ) (least : AreLeastClear p.pages (taken_for makes head fresh)) where
      as_made : makes ≡ true → AreLeastClear p.pages (head ∷ fresh)
      as_made e = subst (λ (b : Bool). AreLeastClear p.pages (taken_for b head fresh)) e least

      pub head_low : head < p.super.md_len
      head_low = elim (cases_Bool makes) [
        | inl e ↦ subst (λ n. head < n) used.count (as_made e).0.within
        | inr e ↦ well.chains.low head head (head ∷ (chain_there e).0) (chain_there e).1
            (among_first head (chain_there e).0)
      ]

    module _ (claimed : List ℕ) (least : AreLeastClear p.clusters claimed) (one_each : length claimed ≡ length zeros)
        (chains : map.FinMap nat_cmp (List ℕ)) (after : List Bool) (x : Prepared)
        (is : IsPrepared chains head (with_clusters new zeros claimed) makes p.pages after x) where
      abbrev later : Meta
      later = with_clusters new zeros claimed

      t : IsTaken is.items head makes p.pages after x.laid
      t = is.taken

      whole : IsStoredWell p.super head later
      whole = stored_well p running clean runs command head new zeros asks claimed least one_each
          (head_low t.fresh t.least)

      -- and has no mark
      pub unmarked : mark_of later ≡ None
      unmarked = filled_mark new zeros claimed ∙ (asked p running clean runs command head new zeros asks).unmarked

      pub ready : IsReady p head (with_clusters new zeros claimed) makes after x.laid.pages (drop 1 x.laid.chain)
      ready = ready_on p.super placed p.pages used.count head later whole.stored makes in_use is.items is.are
          is.plannable after x.laid t
