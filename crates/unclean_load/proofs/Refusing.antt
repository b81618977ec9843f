-- An accepted image has no fault.
use Rattle.std.proofs.Common.{◌≡◌, ℕ, ◌+◌, ◌^◌, ◌≤◌, true, false, List, [], length, Option, Some, None, is_some, refl}
use Rattle.std.proofs.Common.{sym, ap, subst, ◌∙◌, inl, inr, arith}
use Rattle.std.specs.Prelude.{codes}
use Rattle.std.specs.Option.{option_map_or, option_map, option_and_then}
use Rattle.std.proofs.lemmas.Bool.{both_ways}
use Rattle.page_disk.specs.Disk.{Image}
use Rattle.page_fields.specs.Fields.{number}
use Rattle.super_block.specs.declared.page.Super.{Super}
use Rattle.volume_model.specs.Xattrs.{value_of}
use Rattle.blob_meta.specs.declared.meta.Meta.{Meta}
use Rattle.blob_meta.specs.Says.{meta_of}
use Rattle.blob_meta.specs.Faults.{meta_fault}
use Rattle.blob_meta.specs.Parents.{parent_of, is_read_only}
use Rattle.blob_meta.specs.Resolving.{IsLawful, resolved, slots_together}
use Rattle.md_chain.specs.Chain.{Look}
use Rattle.md_chain.proofs.OneChain.{one_chain, not_both_ways}
use Rattle.store_model.specs.Maps.{Metas, Chains}
use Rattle.store_model.specs.Regions.{MdRegion, region_of, look_of}
use Rattle.store_model.specs.Scans.{MetaAt, SomeBlob}
use Rattle.store_model.specs.Steady.{NamesHead}
use Rattle.unclean_load.specs.declared.fault.LoadFault.{LoadFault}
use Rattle.unclean_load.specs.declared.fault.LoadFault.TheVariants as fault
use Rattle.unclean_load.specs.declared.heads.Heads.{Heads}
use Rattle.unclean_load.specs.Accepted.{ClusterFails, FailsBy, HeadFails, IsAccepted, IsFaultOf, IsImageFault, LoadsBy}
use Rattle.unclean_load.specs.Accepted.{ParentFails, StoreFails}
use Rattle.unclean_load.specs.Heads.{AreWhole, Shows, ShowsFirst}
use Rattle.unclean_load.specs.Quick.{AreHeads}
use Rattle.unclean_load.specs.Parents.{HasWritableParent, NamesNoBlob, ShowsParent, ShowsParentFirst}
use Rattle.unclean_load.proofs.PlaceSays.{blob_of_head, one_metas, one_place}
use Rattle.unclean_load.proofs.Ancestors.{never_back}
use Rattle.unclean_load.proofs.Counts.{copies_grow}
use Rattle.unclean_load.proofs.Slots.{one_copy}
use Rattle.unclean_load.proofs.Sums.{sum_grows}
use Rattle.unclean_load.proofs.HeadWalk.{slots_more, slots_same}

-- ---- a head says one thing

one_meta : (look : Look) (r : MdRegion) (h : ℕ) (m n : Meta) (ps qs : List ℕ) → MetaAt look r h m ps
    → MetaAt look r h n qs → m ≡ n
one_meta look r h m n ps qs x y =
    x.meta_is ∙ ap (meta_of h) (one_chain look r.len h 0 [] h h x.items y.items ps qs x.chain y.chain).0 ∙ sym y.meta_is

-- ---- no head shows a fault

module _ (look : Look) (r : MdRegion) (heads : Heads) (metas : Metas) (chains : Chains)
    (whole : AreWhole look r heads metas chains) (why : LoadFault) (x : ShowsFirst look r heads why) where
  abbrev h : ℕ
  h = x.head

  blob_there : SomeBlob look r h (metas h) (chains h)
  blob_there = blob_of_head look r heads h (metas h) (chains h) (whole.says h) x.is

  same_slots : slots_together h x.metas ≡ slots_together h metas
  same_slots =
      slots_same x.metas metas h
      (λ k lt. (one_place look r heads k (x.metas k) (metas k) (x.chains k) (chains k) (x.before.blobs k lt)
      (whole.says k)).0)

  slots_here : slots_together h metas + length blob_there.meta.map ≤ 2 ^ 24
  slots_here =
      let a = slots_more metas h in
      let b = ap (λ (o : Option Meta). option_map_or (λ (m : Meta). length m.map) o 0) blob_there.meta_is in
      let c =
      sum_grows (λ k. option_map_or (λ (m : Meta). length m.map) (metas k) 0) (h + 1) r.len
      (let lt = x.low in omega (arith, lt)) in
      let few = whole.few in
      omega (arith, a, b, c, few)

  not_shown : (e : LoadFault) → Shows look r x.metas h e → ⊥
  not_shown (fault.Chain at e) y =
      not_both_ways look r.len h 0 [] h h blob_there.says.items blob_there.pages e blob_there.says.chain y.1
  not_shown (fault.Meta at e) y =
      let says = blob_there.says in
      let same =
      (one_chain look r.len h 0 [] h h y.1.items says.items y.1.pages blob_there.pages y.1.chain says.chain).0 in
      let none : meta_fault r.fixed r.clusters (meta_of h y.1.items) ≡ None =
      ap (λ (m : Meta). meta_fault r.fixed r.clusters m) (ap (meta_of h) same ∙ sym says.meta_is) ∙ says.faultless in
      let some = y.1.is in
      absurd (let z = sym none ∙ some in cc z)
  not_shown (fault.MapsTooLarge slots) y =
      let same =
      ap (λ (m : Meta). length m.map)
      (one_meta look r h y.meta blob_there.meta y.pages blob_there.pages y.says blob_there.says) in
      let a = y.count in let b = y.many in let c = same_slots in let d = slots_here in
      absurd (omega (arith, same, a, b, c, d))
  not_shown (fault.Super e) y = y
  not_shown (fault.NoParentBlob blob parent) y = y
  not_shown (fault.WritableParent blob parent) y = y
  not_shown (fault.ParentLoop blob) y = y
  not_shown (fault.Shared cluster a b) y = y
  not_shown (fault.NoRoom head has wants) y = y
  not_shown fault.ReadFault y = y
  not_shown fault.Memory y = y

  -- of an accepted image no head shows a fault
  pub none_shown : ⊥
  none_shown = not_shown why x.shows

-- ---- lawful metadata shows no fault of parents

module _ (md_len : ℕ) (metas : Metas) (named : (head : ℕ) (m : Meta) → metas head ≡ Some m → NamesHead m)
    (lawful : IsLawful md_len metas) where
  not_missing : (o : Option (List ℕ)) (q : Option ℕ) (m : Meta) (head parent : ℕ) → metas head ≡ Some m
      → value_of m.internal (codes "SNAP") ≡ o → parent_of m ≡ q → NamesNoBlob metas m parent → ⊥
  not_missing None q m head parent is snap of x =
      let gives = sym x.gives ∙ ap (option_map (number 8)) snap in cc gives
  not_missing (Some bytes) None m head parent is snap of x =
      let e : true ≡ false = sym (ap is_some snap) ∙ named head m is ∙ ap is_some of in cc e
  not_missing (Some bytes) (Some p) m head parent is snap of x =
      let there = (lawful.parents head p m is of).1 in
      let none = sym (ap (option_and_then metas) of) ∙ x.none in
      let e = sym there ∙ none in cc e

  not_writable : (m : Meta) (head parent : ℕ) → metas head ≡ Some m → HasWritableParent metas m parent → ⊥
  not_writable m head parent is x =
      let right = lawful.parents head parent m is x.named in
      let same : right.0 ≡ x.blob = let e = sym right.1 ∙ x.there in cc e in
      both_ways (is_read_only x.blob.flags) x.writable
      (subst (λ (n : Meta). is_read_only n.flags ≡ true) same right.2)

  -- of lawful metadata in which each SNAP names a head no blob shows a fault of its parents
  pub no_parent_shown : (why : LoadFault) → ShowsParentFirst metas why → ⊥
  no_parent_shown why x = by why x.shows
    where
      by : (e : LoadFault) → ShowsParent metas x.head x.meta e → ⊥
      by (fault.NoParentBlob blob parent) y =
          not_missing (value_of x.meta.internal (codes "SNAP")) (parent_of x.meta) x.meta x.head parent x.is refl refl
          y.1
      by (fault.WritableParent blob parent) y = not_writable x.meta x.head parent x.is y.1
      by (fault.ParentLoop blob) y = never_back metas lawful.rank lawful.falls x.head y.2
      by (fault.Super e) y = y
      by (fault.Chain head e) y = y
      by (fault.Meta head e) y = y
      by (fault.MapsTooLarge slots) y = y
      by (fault.Shared cluster a b) y = y
      by (fault.NoRoom head has wants) y = y
      by fault.ReadFault y = y
      by fault.Memory y = y

-- ---- an image

module _ (s : Super) (image : Image) (heads : Heads) (a : LoadsBy s image heads) where
  -- the heads say one metadata
  one_said : (metas : Metas) (chains : Chains)
      → AreWhole (look_of (region_of s) image) (region_of s) heads metas chains → a.metas ≡ metas
  one_said metas chains whole =
      one_metas (look_of (region_of s) image) (region_of s) heads a.metas a.chains a.whole metas chains whole

  no_head_fails : (why : LoadFault) → HeadFails s image heads why → ⊥
  no_head_fails why x =
      none_shown (look_of (region_of s) image) (region_of s) heads a.metas a.chains a.whole why x

  no_parent_fails : (why : LoadFault) → ParentFails s image heads why → ⊥
  no_parent_fails why x =
      no_parent_shown s.md_len (resolved a.metas) a.named a.lawful why
      (subst (λ (m : Metas). ShowsParentFirst (resolved m) why) (sym (one_said x.metas x.chains x.whole)) x.shows)

  no_cluster_fails : (cluster p q : ℕ) → ClusterFails s image heads cluster p q → ⊥
  no_cluster_fails cluster p q x =
      let n = s.md_len in
      let lawful : IsLawful n (resolved x.metas) =
      subst (λ (m : Metas). IsLawful n (resolved m)) (one_said x.metas x.chains x.whole) a.lawful in
      let most =
      one_copy (resolved x.metas) cluster (λ h k i j m o b c y z. lawful.alone h k i j cluster m o b c y z) n in
      let grow = copies_grow (resolved x.metas) cluster (q + 1) n (let lt = x.shared.second.low in omega (arith, lt)) in
      let two = x.shared.second.here in
      absurd (omega (arith, grow, two, most))

  -- heads by which the store is loaded show no fault
  none_fails : (why : LoadFault) → IsImageFault why → FailsBy s image heads why → ⊥
  none_fails (fault.NoParentBlob blob parent) is x = no_parent_fails (fault.NoParentBlob blob parent) x
  none_fails (fault.WritableParent blob parent) is x = no_parent_fails (fault.WritableParent blob parent) x
  none_fails (fault.ParentLoop blob) is x = no_parent_fails (fault.ParentLoop blob) x
  none_fails (fault.Shared cluster p q) is x = no_cluster_fails cluster p q x
  none_fails (fault.Super e) is x = no_head_fails (fault.Super e) x
  none_fails (fault.NoRoom head has wants) is x = no_head_fails (fault.NoRoom head has wants) x
  none_fails fault.ReadFault is x = no_head_fails fault.ReadFault x
  none_fails fault.Memory is x = no_head_fails fault.Memory x
  none_fails (fault.Chain head e) is x = no_head_fails (fault.Chain head e) x
  none_fails (fault.Meta head e) is x = no_head_fails (fault.Meta head e) x
  none_fails (fault.MapsTooLarge slots) is x = no_head_fails (fault.MapsTooLarge slots) x

-- an image that is accepted has no fault, since a store has one set of heads
module _ (pages : ℕ) (image : Image)
    (one : (s : Super) (a b : Heads) → AreHeads s image a → AreHeads s image b → a ≡ b) where
  store_fails : IsAccepted pages image → (why : LoadFault) → IsImageFault why → StoreFails pages image why → ⊥
  store_fails a why is x =
      let e : a.sup ≡ x.sup = a.super_at.is ∙ sym x.super_at.is in
      let are : AreHeads x.sup image a.heads = subst (λ (s : Super). AreHeads s image a.heads) e a.are in
      let heads : a.heads ≡ x.heads = one x.sup a.heads x.heads are x.are in
      none_fails x.sup image x.heads
      (subst (λ (h : Heads). LoadsBy x.sup image h) heads
      (subst (λ (s : Super). LoadsBy s image a.heads) e a.loads)) why is x.fails

  pub refused : IsAccepted pages image → (why : LoadFault) → IsImageFault why → IsFaultOf pages image why → ⊥
  refused a (fault.Super e) is (inl none) = let some = a.super_at.some_pages in absurd (omega (arith, some, none.0))
  refused a (fault.Super e) is (inr bad) =
      let fine = a.super_at.faultless in let x = sym fine ∙ bad.1 in absurd (cc x)
  refused a (fault.NoParentBlob blob parent) is x = store_fails a (fault.NoParentBlob blob parent) is x
  refused a (fault.WritableParent blob parent) is x = store_fails a (fault.WritableParent blob parent) is x
  refused a (fault.ParentLoop blob) is x = store_fails a (fault.ParentLoop blob) is x
  refused a (fault.Shared cluster p q) is x = store_fails a (fault.Shared cluster p q) is x
  refused a (fault.NoRoom head has wants) is x = x
  refused a fault.ReadFault is x = is
  refused a fault.Memory is x = is
  refused a (fault.Chain head e) is x = store_fails a (fault.Chain head e) is x
  refused a (fault.Meta head e) is x = store_fails a (fault.Meta head e) is x
  refused a (fault.MapsTooLarge slots) is x = store_fails a (fault.MapsTooLarge slots) is x
