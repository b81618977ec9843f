-- What the places of a region say, by its heads.
use Rattle.std.proofs.Common.{◌≡◌, ℕ, ◌+◌, ◌^◌, ◌<◌, ◌≤◌, Bool, true, false, List, [], Option, Some, None, sym, ap}
use Rattle.std.proofs.Common.{◌∙◌, refl, inl, inr, arith}
use Rattle.std.specs.Prelude.{nat_lt}
use Rattle.std.proofs.Math.Path.{fun_ext}
use Rattle.std.proofs.lemmas.Bool.{both_ways, cases_Bool, cases_lt}
use Rattle.std.proofs.lemmas.Bool.Decides.{nat_tests}
use Rattle.std.proofs.lemmas.List.{get_or_past}
use Rattle.bit_array.specs.Bits.{is_in}
use Rattle.blob_meta.specs.Says.{meta_of}
use Rattle.blob_meta.specs.declared.meta.Meta.{Meta}
use Rattle.blob_meta.specs.Resolving.{slots_together}
use Rattle.md_chain.proofs.Links.{Linked}
use Rattle.md_chain.proofs.OneChain.{one_chain}
use Rattle.md_chain.specs.Chain.{Look, is_among}
use Rattle.store_model.proofs.Scanning.{chain_of, is_at}
use Rattle.store_model.specs.Maps.{Metas, Chains}
use Rattle.store_model.specs.Regions.{MdRegion}
use Rattle.store_model.specs.Scans.{BlobAt, Scanned, SomeBlob, head_at}
use Rattle.unclean_load.specs.Heads.{AreWhole, AreWholeBelow, PlacesFit, PlaceSays, has_head}
use Rattle.unclean_load.specs.Quick.{HasNoOtherHead}
use Rattle.unclean_load.specs.declared.heads.Heads.{Heads}
use Rattle.unclean_load.specs.declared.heads.Heads.TheVariants.{ByScan, Listed}

-- ---- one place

module _ (look : Look) (r : MdRegion) (heads : Heads) (h : ℕ) where
  -- a place says one thing
  pub one_place : (m n : Option Meta) (c d : Option (List ℕ)) → PlaceSays look r heads h m c
      → PlaceSays look r heads h n d → (m ≡ n) × (c ≡ d)
  one_place m n c d (inl a) (inl b) =
      let x = a.blob in
      let y = b.blob in
      let e = one_chain look r.len h 0 [] h h x.says.items y.says.items x.pages y.pages x.says.chain y.says.chain in (
        x.meta_is ∙ ap (λ (v : Meta). Some v) (x.says.meta_is ∙ ap (meta_of h) e.0 ∙ sym y.says.meta_is)
            ∙ sym y.meta_is,
        x.pages_are ∙ ap (λ (v : List ℕ). Some v) e.1 ∙ sym y.pages_are,
      )
  one_place m n c d (inl a) (inr b) = absurd (both_ways (has_head heads look r.len h) b.no_head a.head)
  one_place m n c d (inr a) (inl b) = absurd (both_ways (has_head heads look r.len h) a.no_head b.head)
  one_place m n c d (inr a) (inr b) = (a.no_meta ∙ sym b.no_meta, a.no_chain ∙ sym b.no_chain)

  -- a head has a blob
  pub blob_of_head : (m : Option Meta) (c : Option (List ℕ)) → PlaceSays look r heads h m c
      → has_head heads look r.len h ≡ true → SomeBlob look r h m c
  blob_of_head m c (inl a) is = a.blob
  blob_of_head m c (inr a) is = absurd (both_ways (has_head heads look r.len h) a.no_head is)

  -- a page of its chain is one of its blob
  pub in_chain : (m : Option Meta) (c : Option (List ℕ)) (ps : List ℕ) → c ≡ Some ps → PlaceSays look r heads h m c
      → (q : ℕ) → is_among q ps ≡ true → Linked (look q) r.len h 0 q
  in_chain m c ps is (inl a) q among = chain_of look r h m c ps is (inl a.blob) q among
  in_chain m c ps is (inr a) q among = absurd (let e = sym a.no_chain ∙ is in cc e)

-- ---- the places below an end

module _ (look : Look) (r : MdRegion) (heads : Heads) (end : ℕ) (metas : Metas) (chains : Chains)
    (said : (h : ℕ) → h < end → PlaceSays look r heads h (metas h) (chains h)) where
  -- no page is in two chains
  pub apart_below : (h k p : ℕ) (ps qs : List ℕ) → h < end → k < end → chains h ≡ Some ps → chains k ≡ Some qs
      → is_among p ps ≡ true → is_among p qs ≡ true → h ≡ k
  apart_below h k p ps qs low lower a b x y =
      let of_h = (in_chain look r heads h (metas h) (chains h) ps a (said h low) p x).id in
      let of_k = (in_chain look r heads k (metas k) (chains k) qs b (said k lower) p y).id in
      let e : 2 ^ 32 + h ≡ 2 ^ 32 + k = sym of_h ∙ of_k in
      omega (arith, e)

-- ---- the whole region

module _ (look : Look) (r : MdRegion) (heads : Heads) (metas : Metas) (chains : Chains)
    (whole : AreWhole look r heads metas chains) where
  -- no page is in two chains
  pub apart : (h k p : ℕ) (ps qs : List ℕ) → chains h ≡ Some ps → chains k ≡ Some qs → is_among p ps ≡ true
      → is_among p qs ≡ true → h ≡ k
  apart h k p ps qs a b x y =
      apart_below look r heads (h + k + 1) metas chains (λ i lt. whole.says i) h k p ps qs (omega arith) (omega arith) a
      b x y

  -- the heads say one metadata, and have one chain each
  pub one_metas : (other : Metas) (links : Chains) → AreWhole look r heads other links → metas ≡ other
  one_metas other links x =
      fun_ext (λ h. (one_place look r heads h (metas h) (other h) (chains h) (links h) (whole.says h) (x.says h)).0)

  pub one_chains : (other : Metas) (links : Chains) → AreWhole look r heads other links → chains ≡ links
  one_chains other links x =
      fun_ext (λ h. (one_place look r heads h (metas h) (other h) (chains h) (links h) (whole.says h) (x.says h)).1)

-- blobs that are whole below the region's end, with none behind it, are whole
pub whole_region : (look : Look) (r : MdRegion) (heads : Heads) (metas : Metas) (chains : Chains)
    → PlacesFit r.len heads → AreWholeBelow look r heads r.len metas chains
    → ((h : ℕ) → r.len ≤ h → metas h ≡ None) → ((h : ℕ) → metas h ≡ None → chains h ≡ None)
    → AreWhole look r heads metas chains
whole_region look r heads metas chains fit below none no_chain = record {
  says = λ h. elim (cases_lt h r.len) [
    | inl lt ↦ below.blobs h lt
    | inr ge ↦
        inr (record {
          no_head = behind heads fit h ge;
          no_meta = none h ge;
          no_chain = no_chain h (none h ge);
        })
  ];
  few = below.few;
}
  where
    behind : (heads : Heads) → PlacesFit r.len heads → (h : ℕ) → r.len ≤ h → has_head heads look r.len h ≡ false
    behind ByScan fit h ge = let out : nat_lt h r.len ≡ false = grind (arith, nat_tests) in rw out refl
    behind (Listed places) fit h ge = get_or_past places h false (omega (arith, fit, ge))

-- ---- scans

-- what a scan says of a place is what is said by it, and the other way round
pub of_scan : (look : Look) (r : MdRegion) (h : ℕ) (m : Option Meta) (c : Option (List ℕ)) → BlobAt look r h m c
    → PlaceSays look r ByScan h m c
of_scan look r h m c (inl b) = inl (record { head = is_at look r h b.meta b.pages b.says; blob = b })
of_scan look r h m c (inr b) = inr (record { no_head = b.no_head; no_meta = b.no_meta; no_chain = b.no_chain })

pub to_scan : (look : Look) (r : MdRegion) (h : ℕ) (m : Option Meta) (c : Option (List ℕ))
    → PlaceSays look r ByScan h m c → BlobAt look r h m c
to_scan look r h m c (inl a) = inl a.blob
to_scan look r h m c (inr a) = inr (record { no_head = a.no_head; no_meta = a.no_meta; no_chain = a.no_chain })

module _ (look : Look) (r : MdRegion) (metas : Metas) (chains : Chains) where
  pub whole_scan : Scanned look r metas chains → slots_together r.len metas ≤ 2 ^ 24
      → AreWhole look r ByScan metas chains
  whole_scan says few = record { says = λ h. of_scan look r h (metas h) (chains h) (says h); few = few }

  pub scan_of : AreWhole look r ByScan metas chains → Scanned look r metas chains
  scan_of whole h = to_scan look r h (metas h) (chains h) (whole.says h)

  -- the blobs of a set are all, where no other place is a head
  pub scan_of_set : (places : List Bool) → AreWhole look r (Listed places) metas chains
      → HasNoOtherHead look r places → Scanned look r metas chains
  scan_of_set places whole none h = elim (whole.says h) [
    | inl a ↦ inl a.blob
    | inr a ↦
        inr (record { no_head = no_head h a.no_head; no_meta = a.no_meta; no_chain = a.no_chain })
  ]
    where
      no_head : (h : ℕ) → is_in places h ≡ false → head_at look r.len h ≡ false
      no_head h out = elim (cases_Bool (head_at look r.len h)) [
        | inl is ↦ absurd (both_ways (is_in places h) out (none h is))
        | inr quiet ↦ quiet
      ]

  -- and the blobs of a scan are those of a set with the same places
  pub set_of_scan : (places : List Bool) → Scanned look r metas chains → slots_together r.len metas ≤ 2 ^ 24
      → ((h : ℕ) → is_in places h ≡ head_at look r.len h) → AreWhole look r (Listed places) metas chains
  set_of_scan places says few same = record {
    says = λ h. elim (says h) [
      | inl b ↦ inl (record { head = same h ∙ is_at look r h b.meta b.pages b.says; blob = b })
      | inr b ↦
          inr (record { no_head = same h ∙ b.no_head; no_meta = b.no_meta; no_chain = b.no_chain })
    ];
    few = few;
  }
