-- What the blobs of a run say of those of the store, and which claims are doomed.
use Rattle.std.proofs.Common.{◌≡◌, ◌≢◌, ℕ, zero, suc, ◌*◌, ◌/◌, ◌<◌, Bool, true, false, List, [], ◌∷◌, length, Option}
use Rattle.std.proofs.Common.{Some, None, refl, sym, ap, ◌∙◌, subst, inl, inr, arith}
use Rattle.std.specs.Prelude.{is_some, map, nat_le, slice_get, if◌then◌else◌}
use Rattle.std.specs.Option.{option_and_then, option_map, option_map_or}
use Rattle.std.proofs.lemmas.Bool.{cases_lt, le-leb, ne_eqb}
use Rattle.std.proofs.lemmas.List.FromFn.{length-map-range_with_len}
use Rattle.std.proofs.Math.Nat.{div-lt_iff_lt-mul, mul_comm}
use Rattle.super_block.specs.Numbers.{cluster_pages_of}
use Rattle.volume_model.specs.Volumes.{head_of, is_super, Volume}
use Rattle.volume_model.specs.Refusals.{refusal}
use Rattle.volume_model.specs.declared.command.Command.TheVariants as c
use Rattle.volume_model.specs.declared.command.PageWord.{PageWord}
use Rattle.volume_model.specs.declared.command.VolumeRef.{VolumeRef}
use Rattle.volume_model.specs.declared.reply.Reply.TheVariants as r
use Rattle.blob_meta.specs.Asked.{first_cause}
use Rattle.blob_meta.specs.declared.meta.Meta.{Meta}
use Rattle.blob_meta.specs.Parents.{is_read_only, slot}
use Rattle.blob_meta.specs.Resolving.{is_kept, mark_of, resolved, resolved_one, without_marks}
use Rattle.blob_meta.proofs.Refused.{at_volume}
use Rattle.store_model.specs.Guarding.{AreGenerations}
use Rattle.store_model.specs.Maps.{Map, Metas}
use Rattle.store_model.specs.Shown.{content, fixed_of, volume_of}
use Rattle.store_model.specs.StoreState.{shown, StoreState}
use Rattle.run_work.specs.RunState.{BlobInRun, ClaimInRun}
use Rattle.run_work.specs.Reading.{has_generation, is_filled, slot_at, slot_in}
use Rattle.run_work.specs.Work.{is_doomed}
use Rattle.run_moves.specs.Projection.{blob_in_run, blobs_in_run}

-- ---- slots

-- a slot that has a cluster
pub slot_filled : (l : List (Option ℕ)) (i cluster : ℕ) → option_and_then (λ s. s) (slice_get l i) ≡ Some cluster
    → slot_at (map is_some l) i ≡ Some true
slot_filled [] i cluster is = absurd (cc is)
slot_filled (None ∷ l) zero cluster is = absurd (cc is)
slot_filled (Some x ∷ l) zero cluster is = refl
slot_filled (x ∷ l) (suc i) cluster is = slot_filled l i cluster is

-- a slot without one, or none
pub slot_unfilled : (l : List (Option ℕ)) (i : ℕ) → option_and_then (λ s. s) (slice_get l i) ≡ None
    → is_filled (slot_at (map is_some l) i) ≡ false
slot_unfilled [] i is = refl
slot_unfilled (None ∷ l) zero is = refl
slot_unfilled (Some x ∷ l) zero is = absurd (cc is)
slot_unfilled (x ∷ l) (suc i) is = slot_unfilled l i is

-- a slot that is there without one
pub slot_empty : (l : List (Option ℕ)) (i : ℕ) → option_and_then (λ s. s) (slice_get l i) ≡ None → i < length l
    → slot_at (map is_some l) i ≡ Some false
slot_empty [] i is low = absurd (omega (arith, low))
slot_empty (None ∷ l) zero is low = refl
slot_empty (Some x ∷ l) zero is low = absurd (cc is)
slot_empty (x ∷ l) (suc i) is low = slot_empty l i is (omega (arith, low))

-- ---- resolved metadata

-- a blob that is kept has the map that it had
pub record HadMap (metas : Metas) (head : ℕ) (m : Meta) : Type 0 where
  pub before : Meta
  pub there : metas head ≡ Some before
  pub map_is : before.map ≡ m.map

module _ (metas : Metas) (head : ℕ) (m : Meta) where
  kept : (before : Meta) (mark : List ℕ) (b : Bool)
      → (if b then Some (without_marks before) else None) ≡ Some m → before.map ≡ m.map
  kept before mark true is = ap (λ (o : Option Meta). option_map_or (λ x. x.map) o []) is
  kept before mark false is = absurd (cc is)

  by_mark : (before : Meta) (o : Option (List ℕ))
      → option_map_or (λ mark. if is_kept metas head mark then Some (without_marks before) else None) o (Some before)
      ≡ Some m → before.map ≡ m.map
  by_mark before None is = ap (λ (o : Option Meta). option_map_or (λ x. x.map) o []) is
  by_mark before (Some mark) is = kept before mark (is_kept metas head mark) is

  by_blob : (o : Option Meta) → metas head ≡ o → option_and_then (resolved_one metas head) o ≡ Some m
      → HadMap metas head m
  by_blob None there is = absurd (cc is)
  by_blob (Some before) there is =
      record { before = before; there = there; map_is = by_mark before (mark_of before) is }

  -- resolving metadata changes no map
  pub had_map : resolved metas head ≡ Some m → HadMap metas head m
  had_map is = by_blob (metas head) refl is

-- ---- blobs

module _ (base : Metas) (generations : Map ℕ) where
  -- a blob of the store as one of the run
  pub blob_is : (head generation : ℕ) (m : Meta) → base head ≡ Some m → generations head ≡ Some generation
      → blobs_in_run base generations head ≡ Some (blob_in_run m generation)
  blob_is head generation m there drawn = rw (there, drawn) refl

  -- a blob has a generation
  pub record HasGeneration (head : ℕ) : Type 0 where
    pub generation : ℕ
    pub is : generations head ≡ Some generation

  some_there : (head : ℕ) (o : Option ℕ) → generations head ≡ o → is_some o ≡ true → HasGeneration head
  some_there head None is bad = absurd (cc bad)
  some_there head (Some n) is there = record { generation = n; is = is }

  -- a blob that is there has a generation
  pub has_one : (drawn head : ℕ) (m : Meta) → AreGenerations base generations drawn → base head ≡ Some m
      → HasGeneration head
  has_one drawn head m are there = some_there head (generations head) refl
      (are.each head ∙ ap (λ (o : Option Meta). is_some o) there)

  -- a slot that the metadata has filled
  pub filled_there : (drawn head i cluster : ℕ) (m : Meta) → AreGenerations base generations drawn
      → resolved base head ≡ Some m → slot m i ≡ Some cluster
      → is_filled (slot_in (blobs_in_run base generations head) i) ≡ true
  filled_there drawn head i cluster m are kept is =
      let had = had_map base head m kept in
      let one = has_one drawn head had.before are had.there in
      ap (λ o. is_filled (slot_in o i)) (blob_is head one.generation had.before had.there one.is)
      ∙ ap is_filled (slot_filled had.before.map i cluster
      (ap (λ l. option_and_then (λ s. s) (slice_get l i)) had.map_is ∙ is))

  unfilled_by : (m : Meta) (o : Option ℕ) (i : ℕ) → slot m i ≡ None
      → is_filled (slot_in (option_map (blob_in_run m) o) i) ≡ false
  unfilled_by m None i is = refl
  unfilled_by m (Some n) i is = slot_unfilled m.map i is

  -- one that it hasn't
  pub unfilled_there : (head i : ℕ) (m : Meta) → resolved base head ≡ Some m → slot m i ≡ None
      → is_filled (slot_in (blobs_in_run base generations head) i) ≡ false
  unfilled_there head i m kept is =
      let had = had_map base head m kept in
      ap (λ o. is_filled (slot_in (option_and_then (λ x. option_map (blob_in_run x) (generations head)) o) i)) had.there
      ∙ unfilled_by had.before (generations head) i
      (ap (λ l. option_and_then (λ s. s) (slice_get l i)) had.map_is ∙ is)

  -- one that is there and empty
  pub record IsEmptyThere (head i generation : ℕ) : Type 0 where
    pub blob : BlobInRun
    pub there : blobs_in_run base generations head ≡ Some blob
    pub empty : slot_in (blobs_in_run base generations head) i ≡ Some false
    pub generation_is : blob.generation ≡ generation

  -- a slot that is there and empty, of a blob with this generation
  pub empty_there : (head i generation : ℕ) (m : Meta) → resolved base head ≡ Some m → slot m i ≡ None
      → i < length m.map → generations head ≡ Some generation → IsEmptyThere head i generation
  empty_there head i generation m kept is low drawn =
      let had = had_map base head m kept in
      let there = blob_is head generation had.before had.there drawn in
      record {
        blob = blob_in_run had.before generation;
        there = there;
        empty = ap (λ o. slot_in o i) there ∙ slot_empty had.before.map i
            (ap (λ l. option_and_then (λ s. s) (slice_get l i)) had.map_is ∙ is)
            (subst (λ (l : List (Option ℕ)). i < length l) (sym had.map_is) low);
        generation_is = refl;
      }

  late_by : (o : Option Meta) (g : Option ℕ) (n : ℕ) → g ≢ Some n
      → has_generation (option_and_then (λ m. option_map (blob_in_run m) g) o) n ≡ false
  late_by None g n late = refl
  late_by (Some m) None n late = refl
  late_by (Some m) (Some k) n late = ne_eqb k n (λ e. late (ap (λ x. Some x) e))

  -- a claim of another generation is doomed
  pub late_doomed : (x : ClaimInRun) → generations x.head ≢ Some x.generation
      → is_doomed (blobs_in_run base generations) x ≡ true
  late_doomed x late = rw (late_by (base x.head) (generations x.head) x.generation late) refl

-- ---- the slot of a page that can be written is there

-- where none of the causes of a write holds, the second doesn't
second_false : (a x : Bool) (long page : ℕ)
    → first_cause ((a, r.Reserved) ∷ (nat_le long page, r.OutOfRange) ∷ (x, r.ReadOnly) ∷ []) ≡ None → page < long
second_false true x long page none = absurd (cc none)
second_false false x long page none = elim (cases_lt page long) [
  | inl lt ↦ lt
  | inr ge ↦ absurd (let bad : Some r.OutOfRange ≡ None =
      sym (ap (λ (b : Bool). first_cause ((b, r.OutOfRange) ∷ (x, r.ReadOnly) ∷ [])) (le-leb long page ge)) ∙ none in
      cc bad)
]

module _ (p : StoreState) (head : ℕ) (m : Meta) (there : resolved p.base head ≡ Some m) where
  abbrev volume_there : Volume
  volume_there = volume_of (fixed_of p.super).cluster_pages p.device.reads (resolved p.base) p.super.md_len
      (option_map_or (λ xs. xs) (p.live head) []) head m

  shown_there : shown p head ≡ Some volume_there
  shown_there = ap (λ o. option_map (λ x. volume_of (fixed_of p.super).cluster_pages p.device.reads (resolved p.base)
      p.super.md_len (option_map_or (λ xs. xs) (p.live head) []) head x) o) there

  -- the slot of a page that nothing refuses to write is there
  pub slot_within : 0 < cluster_pages_of p.super → (volume : VolumeRef) (page : ℕ) (word : PageWord)
      → head_of (fixed_of p.super) (shown p) volume ≡ Some head
      → refusal (fixed_of p.super) (shown p) (c.Write volume page word) ≡ None
      → page / cluster_pages_of p.super < length m.map
  slot_within some volume page word meant none =
      let lt = second_false (is_super (fixed_of p.super) head) (is_read_only m.flags) _ page
      (sym (ap first_cause (at_volume (fixed_of p.super) (shown p) volume _ head volume_there meant shown_there))
      ∙ none) in
      let long : length volume_there.pages ≡ cluster_pages_of p.super * length m.map =
      length-map-range_with_len (content (cluster_pages_of p.super) p.device.reads (resolved p.base)
      (suc p.super.md_len) head) 0 (cluster_pages_of p.super * length m.map) in
      (div-lt_iff_lt-mul some).1 (subst (λ n. page < n) (long ∙ mul_comm _ (length m.map)) lt)
