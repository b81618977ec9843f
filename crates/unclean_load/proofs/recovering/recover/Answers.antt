use Rattle.std.proofs.Common.{rules, ◌≡◌, ◌^◌, ◌<◌, ◌≤◌, ℕ, List, sym, ap, subst, ◌∙◌, arith}
use Rattle.std.specs.Ordering.{nat_cmp}
use Rattle.std.specs.FinMap as map
use Rattle.std.proofs.Math.Path.{fun_ext}
use Rattle.super_block.specs.declared.masks.Masks.{Masks}
use Rattle.super_block.specs.declared.page.Super.{Super}
use Rattle.blob_meta.specs.declared.job.Replacement.{Replacement}
use Rattle.blob_meta.specs.declared.meta.Meta.{Meta}
use Rattle.blob_meta.specs.Repairs.{AreRepairs, HasHeadsBelow, removed}
use Rattle.blob_meta.specs.Resolving.{IsLawful, resolved, slots_together}
use Rattle.blob_meta.specs.SlotCounts.{HeadsFit}
use Rattle.store_model.specs.Maps.{Metas, Chains}
use Rattle.running_store.specs.LoadedWhole.{AreMasks}
use Rattle.running_store.specs.Recovered.{IsRecovered, chains_of, marked_blobs}
use Rattle.unclean_load.specs.declared.fault.LoadFault.{LoadFault}
use Rattle.unclean_load.specs.Claiming.{ChainsAreApart, IsMaskFault, IsRecoveryFault}
use Rattle.unclean_load.specs.Parents.{HaveRightParents, IsParentFault}
use Rattle.unclean_load.specs.Reading.{AreRead}
use Rattle.unclean_load.specs.Sharing.{AreAllInside, copies}
use Rattle.unclean_load.specs.Walks.{HaveLongMarks}
use Rattle.unclean_load.proofs.ChainsOf.{have_chains}
use Rattle.unclean_load.proofs.LoadOutcome.{read_chains}
use Rattle.unclean_load.proofs.OfResolved.{read_below, resolved_below, resolved_fewer, resolved_inside, resolved_long}
use Rattle.unclean_load.proofs.OfResolved.{resolved_low}
use Rattle.unclean_load.proofs.Recovery.{heads_fit, lawful}
use Rattle.unclean_load.proofs.RecoveryFaults.{masks_fail, pages_fail, parents_fail}
use Rattle.unclean_load.proofs.recovering.recover.Goals as goal

-- what the code resolves is what is defined
same_resolved : (read metas : map.FinMap nat_cmp Meta)
    → (HeadsFit read → (h : ℕ) → map.get metas h ≡ resolved (map.get read) h) → HeadsFit read
    → resolved (map.get read) ≡ map.get metas
same_resolved read metas same fit = fun_ext (λ h. sym (same fit h))

few_heads : (n : ℕ) → n ≤ 2 ^ 20 → n < 2 ^ 32
few_heads n le = omega (arith, le)

pub used_pages-requires : goal.used_pages-requires
used_pages-requires c =
    read_chains c.args.sup.now (map.get c.args.blobs.metas) (map.get c.args.blobs.chains) c.requires.read

pub marked_of-requires : goal.marked_of-requires
marked_of-requires c = read_below c.args.sup.now (map.get c.args.blobs.metas) c.requires.read.stored

-- the blobs that were read, as they are resolved
module _ (s : Super) (read metas : map.FinMap nat_cmp Meta) (chains : Chains) (are : AreRead s (map.get read) chains)
    (few : s.md_len ≤ 2 ^ 20)
    (same : HeadsFit read → (h : ℕ) → map.get metas h ≡ resolved (map.get read) h) where
  fit : HeadsFit read
  fit = heads_fit read s.md_len (few_heads s.md_len few) (read_below s (map.get read) are.stored)

  resolves : resolved (map.get read) ≡ map.get metas
  resolves = same_resolved read metas same fit

  below : HasHeadsBelow s.md_len (map.get metas)
  below = subst (HasHeadsBelow s.md_len) resolves (resolved_below s (map.get read) are.stored)

  long : HaveLongMarks (map.get metas)
  long = subst HaveLongMarks resolves (resolved_long s (map.get read) are.stored)

  inside : AreAllInside s (map.get metas)
  inside = subst (AreAllInside s) resolves (resolved_inside s (map.get read) are.stored)

  parents_failed : (why : LoadFault) → IsParentFault (map.get metas) why
      → IsRecoveryFault s.md_len (map.get read) chains why
  parents_failed why x =
      parents_fail s.md_len (map.get read) chains why (subst (λ (m : Metas). IsParentFault m why) (sym resolves) x)

  masks_failed : HaveRightParents (map.get metas) → (why : LoadFault)
      → IsMaskFault s.md_len (map.get metas) (chains_of (map.get metas) chains) why
      → IsRecoveryFault s.md_len (map.get read) chains why
  masks_failed right why x =
      masks_fail s.md_len (map.get read) chains (subst HaveRightParents (sym resolves) right) why
      (subst (λ (m : Metas). IsMaskFault s.md_len m (chains_of m chains) why) (sym resolves) x)

  lawful_read : HaveRightParents (map.get metas) → slots_together s.md_len (map.get read) ≤ 2 ^ 24
      → ((cluster : ℕ) → copies s.md_len (map.get metas) cluster ≤ 1) → IsLawful s.md_len (resolved (map.get read))
  lawful_read right most alone =
      lawful s.md_len (resolved (map.get read)) (resolved_low s (map.get read) are.stored)
      (subst HaveRightParents (sym resolves) right)
      (let fewer = resolved_fewer s.md_len (map.get read) in omega (arith, fewer, most))
      (subst (λ (m : Metas). (cluster : ℕ) → copies s.md_len m cluster ≤ 1) (sym resolves) alone)

  recovered : (removed_too marked_too : map.FinMap nat_cmp Meta) (list : List Replacement) (masks : Masks)
      → slots_together s.md_len (map.get read) ≤ 2 ^ 24
      → ChainsAreApart (chains_of (map.get read) chains)
      → ((h : ℕ) → map.get marked_too h ≡ marked_blobs (map.get read) h)
      → (HeadsFit read → (h : ℕ) → map.get removed_too h ≡ removed (map.get read) h)
      → AreRepairs read list → HaveRightParents (map.get metas)
      → AreMasks s (map.get metas) (chains_of (map.get metas) chains) masks
      → ((cluster : ℕ) → copies s.md_len (map.get metas) cluster ≤ 1)
      → IsRecovered s (map.get read) chains metas removed_too marked_too list masks
  recovered removed_too marked_too list masks most apart marks removes repairs right claims alone = record {
    stored = are.stored;
    chains = have_chains s (map.get read) chains are apart;
    few = most;
    resolves = resolves;
    removes = fun_ext (λ h. sym (removes fit h));
    marks = fun_ext (λ h. sym (marks h));
    repairs_are = repairs s.md_len (omega (arith, few)) (read_below s (map.get read) are.stored);
    named = λ h m there. (right.right h m (ap (λ f. f h) (sym resolves) ∙ there)).named;
    lawful = lawful_read right most alone;
    masks = subst (λ (m : Metas). AreMasks s m (chains_of m chains) masks) (sym resolves) claims;
  }

pub check_parents-requires-clause-below : goal.check_parents-requires-clause-below
check_parents-requires-clause-below c =
    below c.args.sup.now c.args.blobs.metas c.in_ok-resolved.resolved.metas (map.get c.args.blobs.chains)
    c.requires.read (c.regions_are_placed.ensures c.args.sup.now c.requires.faultless).few_md_pages
    c.in_ok-resolved.ensures.metas

pub check_parents-requires-clause-long : goal.check_parents-requires-clause-long
check_parents-requires-clause-long c =
    long c.args.sup.now c.args.blobs.metas c.in_ok-resolved.resolved.metas (map.get c.args.blobs.chains)
    c.requires.read (c.regions_are_placed.ensures c.args.sup.now c.requires.faultless).few_md_pages
    c.in_ok-resolved.ensures.metas

pub masks_of-requires-clause-below : goal.masks_of-requires-clause-below
masks_of-requires-clause-below c =
    below c.args.sup.now c.args.blobs.metas c.in_ok-resolved.resolved.metas (map.get c.args.blobs.chains)
    c.requires.read (c.regions_are_placed.ensures c.args.sup.now c.requires.faultless).few_md_pages
    c.in_ok-resolved.ensures.metas

pub masks_of-requires-clause-inside : goal.masks_of-requires-clause-inside
masks_of-requires-clause-inside c =
    inside c.args.sup.now c.args.blobs.metas c.in_ok-resolved.resolved.metas (map.get c.args.blobs.chains)
    c.requires.read (c.regions_are_placed.ensures c.args.sup.now c.requires.faultless).few_md_pages
    c.in_ok-resolved.ensures.metas

pub masks_of-requires-clause-chains : goal.masks_of-requires-clause-chains
masks_of-requires-clause-chains c =
    read_chains c.args.sup.now (map.get c.args.blobs.metas) (map.get c.args.blobs.chains) c.requires.read

pub returns-in_err-_all-clause-fault : goal.returns-in_err-_all-clause-fault
returns-in_err-_all-clause-fault c =
    let why = c.in_err-_all.field-0.0 in
    let x : IsRecoveryFault c.args.sup.now.md_len (map.get c.args.blobs.metas) (map.get c.args.blobs.chains) why =
    pages_fail c.args.sup.now.md_len (map.get c.args.blobs.metas) (map.get c.args.blobs.chains)
    (map.get c.args.blobs.metas) why c.in_err-_all.ensures.fault in
    search rules

pub returns-in_err-check_parents-clause-fault : goal.returns-in_err-check_parents-clause-fault
returns-in_err-check_parents-clause-fault c =
    let why = c.in_err-check_parents.field-0.0 in
    let x : IsRecoveryFault c.args.sup.now.md_len (map.get c.args.blobs.metas) (map.get c.args.blobs.chains) why =
    parents_failed c.args.sup.now c.args.blobs.metas c.in_ok-resolved.resolved.metas (map.get c.args.blobs.chains)
    c.requires.read (c.regions_are_placed.ensures c.args.sup.now c.requires.faultless).few_md_pages
    c.in_ok-resolved.ensures.metas why c.in_err-check_parents.ensures.fault in
    search rules

pub returns-in_err-masks-clause-fault : goal.returns-in_err-masks-clause-fault
returns-in_err-masks-clause-fault c =
    let why = c.in_err-masks.field-0.0 in
    let x : IsRecoveryFault c.args.sup.now.md_len (map.get c.args.blobs.metas) (map.get c.args.blobs.chains) why =
    masks_failed c.args.sup.now c.args.blobs.metas c.in_ok-resolved.resolved.metas (map.get c.args.blobs.chains)
    c.requires.read (c.regions_are_placed.ensures c.args.sup.now c.requires.faultless).few_md_pages
    c.in_ok-resolved.ensures.metas c.in_ok-check_parents.ensures.right why c.in_err-masks.ensures.fault in
    search rules

pub returns-clause-recovered : goal.returns-clause-recovered
returns-clause-recovered c =
    let r = c.in_ok-resolved.ensures in
    let resolved_now = c.in_ok-resolved.resolved in
    let masks = c.in_ok-masks.ensures in
    recovered c.args.sup.now c.args.blobs.metas resolved_now.metas (map.get c.args.blobs.chains)
    c.requires.read (c.regions_are_placed.ensures c.args.sup.now c.requires.faultless).few_md_pages r.metas
    resolved_now.removed c.in_ok-marked.marked resolved_now.repairs c.in_ok-masks.masks c.requires.few
    c.in_ok-_all.ensures.apart c.in_ok-marked.ensures r.removed r.repairs c.in_ok-check_parents.ensures.right
    masks.masks masks.alone
