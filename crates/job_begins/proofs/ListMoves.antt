-- What the replacements of a snapshot's and a delete's job make of the clusters in maps.
use Rattle.std.proofs.Common.{◌≡◌, ◌≢◌, ◌↔◌, ◌⊎◌, ◌∙◌, ℕ, ◌<◌, Bool, true, List, [], length, Option, Some, None, arith}
use Rattle.std.proofs.Common.{refl, sym, ap, subst, inl, inr}
use Rattle.std.specs.Option.{option_or}
use Rattle.std.proofs.lemmas.Bool.{cases_eq}
use Rattle.bit_array.specs.Bits.{is_in}
use Rattle.super_block.specs.declared.page.Super.{Super}
use Rattle.volume_model.specs.Xattrs.{Xattrs}
use Rattle.blob_meta.specs.declared.meta.Meta.{Meta}
use Rattle.blob_meta.specs.Faults.{clusters_held}
use Rattle.blob_meta.specs.Parents.{slot}
use Rattle.blob_meta.specs.Resolving.{without_marks}
use Rattle.md_chain.specs.Chain.{is_among}
use Rattle.snapshots.specs.SnapshotJobs.{begun_snapshot, emptied_volume, filled_snapshot}
use Rattle.inflate_delete.specs.DeleteJobs.{going_blob, heir_of}
use Rattle.shown_volumes.proofs.EmptyMaps.{empty_slot}
use Rattle.shown_volumes.proofs.HeirMaps.{filled_within, long_over, slot_over}
use Rattle.store_model.specs.Jobs.{MovesClusters}
use Rattle.store_model.specs.Maps.{Metas, with_entry, without_entry}
use Rattle.store_model.specs.Places.{all_set}
use Rattle.store_model.specs.Steady.{AreStored}
use Rattle.store_model.proofs.Sets.{AllBelow}
use Rattle.store_model.proofs.WithEntry.{given_elsewhere, given_here}
use Rattle.job_begins.specs.Alone.{IsMappedBeside, IsMissing}
use Rattle.job_begins.proofs.ClustersAlone.{erased_moves, moves_none, moves_same, set_with}
use Rattle.job_begins.proofs.CutClusters.{among_slots, in_slot}

-- ---- a snapshot

module _ (s : Super) (base : Metas) (of head : ℕ) (old : Meta) (xattrs : Xattrs) (there : base of ≡ Some old)
    (none : base head ≡ None) where
  abbrev begun : Meta
  begun = begun_snapshot of old head xattrs

  abbrev filled : Meta
  filled = filled_snapshot of old head xattrs

  abbrev emptied : Meta
  emptied = emptied_volume old head

  abbrev first : Metas
  first = with_entry base head begun

  abbrev second : Metas
  second = with_entry first head filled

  abbrev third : Metas
  third = with_entry second of emptied

  empty : (place c : ℕ) → slot begun place ≡ Some c → ⊥
  empty place c is = let bad = sym (empty_slot (length old.map) place) ∙ is in cc bad

  apart : of ≢ head
  apart e = let bad = sym none ∙ ap base (sym e) ∙ there in cc bad

  first_of : first of ≡ Some old
  first_of = given_elsewhere base head begun of apart ∙ there

  second_of : second of ≡ Some old
  second_of = given_elsewhere first head filled of apart ∙ first_of

  -- the snapshot is made with no cluster,
  pub begins_moves : MovesClusters s base first [] []
  begins_moves = moves_none s base head begun
      (λ m place c is at. let bad = sym none ∙ is in absurd (cc bad))
      (λ place c at. absurd (empty place c at))

  -- has the volume's clusters beside the volume,
  pub fills_moves : MovesClusters s first second [] []
  fills_moves = moves_none s first head filled
      (λ m place c is at.
      let one : begun ≡ m = let both = sym (given_here base head begun head refl) ∙ is in cc both in
      absurd (empty place c (ap (λ (n : Meta). slot n place) one ∙ at)))
      (λ place c at. record { head = of; meta = old; there = first_of; place = place; in_slot = at })

  -- and has them alone.
  pub commit_moves : MovesClusters s second third [] []
  commit_moves = moves_none s second of emptied
      (λ m place c is at.
      let one : m ≡ old = let both = sym is ∙ second_of in cc both in record {
        head = head;
        meta = filled;
        there = third_head;
        place = place;
        in_slot = ap (λ (n : Meta). slot n place) (sym one) ∙ at;
      })
      (λ place c at. absurd (empty place c at))
    where
      third_head : third head ≡ Some filled
      third_head = given_elsewhere second of emptied head (λ e. apart (sym e)) ∙ given_here first head filled head refl

  -- Lifting its mark changes no map.
  pub finishes_moves : MovesClusters s third (with_entry third head (without_marks filled)) [] []
  finishes_moves = moves_same s third head filled (without_marks filled)
      (given_elsewhere second of emptied head (λ e. apart (sym e)) ∙ given_here first head filled head refl) refl

-- ---- a delete of a blob with one clone

module _ (s : Super) (base : Metas) (of clone : ℕ) (old heir : Meta) (there : base of ≡ Some old)
    (there_too : base clone ≡ Some heir) (apart : clone ≢ of) where
  abbrev going : Meta
  going = going_blob old clone

  abbrev taking : Meta
  taking = heir_of heir old

  abbrev marked : Metas
  marked = with_entry base of going

  abbrev taken : Metas
  taken = with_entry marked clone taking

  -- the mark changes no map
  pub marks_moves : MovesClusters s base marked [] []
  marks_moves = moves_same s base of old going there refl

  marked_clone : marked clone ≡ Some heir
  marked_clone = given_elsewhere base of going clone apart ∙ there_too

  -- a cluster of the clone stays in its slot
  own_stays : (place c : ℕ) → slot heir place ≡ Some c → slot taking place ≡ Some c
  own_stays place c at =
      slot_over heir old place (filled_within heir place c at) ∙ ap (λ (o : Option ℕ). option_or o (slot old place)) at

  -- and each that it has then was its own or the blob's
  one_of_both : (place c : ℕ) → slot taking place ≡ Some c → (slot heir place ≡ Some c) ⊎ (slot old place ≡ Some c)
  one_of_both place c at =
      by (slot heir place) refl
    where
      low : place < length heir.map
      low = let lt = filled_within taking place c at in let same = long_over heir old in omega (arith, lt, same)

      by : (o : Option ℕ) → slot heir place ≡ o → (slot heir place ≡ Some c) ⊎ (slot old place ≡ Some c)
      by (Some x) is = inl (is ∙ ap (λ (o : Option ℕ). option_or o (slot old place)) (sym is)
          ∙ sym (slot_over heir old place low) ∙ at)
      by None is = inr (ap (λ (o : Option ℕ). option_or o (slot old place)) (sym is)
          ∙ sym (slot_over heir old place low) ∙ at)

  -- the clone takes over clusters of the blob, which has them still
  pub takes_moves : MovesClusters s marked taken [] []
  takes_moves = moves_none s marked clone taking
      (λ m place c is at.
      let one : m ≡ heir = let both = sym is ∙ marked_clone in cc both in record {
        head = clone;
        meta = taking;
        there = given_here marked clone taking clone refl;
        place = place;
        in_slot = own_stays place c (ap (λ (n : Meta). slot n place) (sym one) ∙ at);
      })
      (λ place c at. elim (one_of_both place c at) [
        | inl own ↦ record { head = clone; meta = heir; there = marked_clone; place = place; in_slot = own }
        | inr its ↦ record {
          head = of;
          meta = going;
          there = given_here base of going of refl;
          place = place;
          in_slot = its;
        }
      ])

  taken_of : taken of ≡ Some going
  taken_of = given_elsewhere marked clone taking of (λ e. apart (sym e)) ∙ given_here base of going of refl

  module _ (low : clone < s.md_len) (bits : List Bool)
      (bits_are : (c : ℕ) → (is_in bits c ≡ true) ↔ IsMappedBeside s.md_len base of c)
      (below : AllBelow (length bits) (clusters_held taking.map)) where
    -- those of the clone are added to what other blobs had
    abbrev pub both : List Bool
    both = all_set bits (clusters_held taking.map) true

    had : (c : ℕ) → IsMappedBeside s.md_len base of c → IsMappedBeside s.md_len taken of c
    had c x = elim (cases_eq x.other clone) [
      | inl e ↦
          let one : x.meta ≡ heir = let same = sym x.there ∙ ap base e ∙ there_too in cc same in
          let at = in_slot x.meta.map c x.among in
          record {
            other = clone;
            low = low;
            apart = apart;
            meta = taking;
            there = given_here marked clone taking clone refl;
            among = among_slots taking.map at.i c
                (own_stays at.i c (ap (λ (m : Meta). slot m at.i) (sym one) ∙ at.at));
          }
      | inr ne ↦ record {
        other = x.other;
        low = x.low;
        apart = x.apart;
        meta = x.meta;
        there = given_elsewhere marked clone taking x.other ne ∙ given_elsewhere base of going x.other x.apart
            ∙ x.there;
        among = x.among;
      }
    ]

    back : (c : ℕ) → IsMappedBeside s.md_len taken of c
        → IsMappedBeside s.md_len base of c ⊎ (is_among c (clusters_held taking.map) ≡ true)
    back c x = elim (cases_eq x.other clone) [
      | inl e ↦
          let one : x.meta ≡ taking =
          let same = sym x.there ∙ given_here marked clone taking x.other e in cc same in
          inr (subst (λ (m : Meta). is_among c (clusters_held m.map) ≡ true) one x.among)
      | inr ne ↦ inl (record {
        other = x.other;
        low = x.low;
        apart = x.apart;
        meta = x.meta;
        there = sym (given_elsewhere marked clone taking x.other ne ∙ given_elsewhere base of going x.other x.apart)
            ∙ x.there;
        among = x.among;
      })
    ]

    -- so these are the clusters that other blobs have behind the commit
    pub both_are : (c : ℕ) → (is_in both c ≡ true) ↔ IsMappedBeside s.md_len taken of c
    both_are c = (
      λ set. elim ((set_with bits (clusters_held taking.map) below c).0 set) [
        | inl was ↦ had c ((bits_are c).0 was)
        | inr among ↦ record {
          other = clone;
          low = low;
          apart = apart;
          meta = taking;
          there = given_here marked clone taking clone refl;
          among = among;
        }
      ],
      λ x. (set_with bits (clusters_held taking.map) below c).1 (elim (back c x) [
        | inl was ↦ inl ((bits_are c).1 was)
        | inr among ↦ inr among
      ]),
    )

    -- The blob's clusters that no other has then are freed with its head.
    pub erases_moves : AreStored s taken → (freed : List ℕ)
        → ((c : ℕ) → (is_among c freed ≡ true) ↔ IsMissing both old.map c)
        → MovesClusters s taken (without_entry taken of) freed []
    erases_moves stored freed freed_are =
        erased_moves s taken stored of going taken_of both both_are freed freed_are
