use Rattle.std.proofs.Common.{rules, ◌≡◌, ℕ, ◌+◌, ◌≤◌, List, Option, None, Some, sym, subst, ◌∙◌, length, arith}
use Rattle.std.specs.Prelude.{IsTrue}
use Rattle.std.specs.Option.{option_map_or}
use Rattle.std.specs.Ordering.{nat_cmp}
use Rattle.std.specs.FinMap as map
use Rattle.blob_meta.specs.Resolving.{slots_together}
use Rattle.md_chain.specs.Reading.{region_look}
use Rattle.page_disk.specs.declared.disk.PageDisk.{Ghosts}
use Rattle.super_block.specs.declared.page.Super.{Super}
use Rattle.store_model.specs.Maps.{Metas, Chains}
use Rattle.store_model.specs.Regions.{region_of}
use Rattle.unclean_load.specs.Heads.{AreWholeBelow}
use Rattle.md_chain.proofs.DeviceWalk.{read_on}
use Rattle.unclean_load.specs.declared.heads.Blob.{Blob}
use Rattle.unclean_load.specs.declared.heads.Heads.{Heads}
use Rattle.unclean_load.specs.Reading.{HasNoneFrom, SaysAt, IsOnlyFault, chain_in}
use Rattle.unclean_load.specs.Reads.{pages_together, reads_to_test}
use Rattle.unclean_load.proofs.FewPages.{few_pages, few_places, tests_within}
use Rattle.unclean_load.proofs.PlaceSays.{whole_region}
use Rattle.unclean_load.proofs.Taken.{chain_of_region}
use Rattle.unclean_load.proofs.HeadWalk.{Walked, begun, none_there, one_there, inserted, the_one}
use Rattle.unclean_load.proofs.HeadFaults.{place_fails, add_fails, counted_first, refused_uncounted}
use Rattle.unclean_load.proofs.walking.blobs_on.Goals as goal
use Rattle.unclean_load.proofs.walking.blobs_on.Goals.{in-Some+in_ok-add, in_default}

pub loop-place-init : goal.loop-place-init
loop-place-init g c =
    subst (λ (n : ℕ). Walked g.D.PageDisk c.args.sup.now c.args.heads.now c.args.disk.now c.args.disk.now
    (map.get c.new-blobs.result.metas) (map.get c.new-blobs.result.chains) n 0) (sym c.new-blobs.ensures.slots)
    (begun g.D.PageDisk c.args.sup.now c.args.heads.now c.args.disk.now (map.get c.new-blobs.result.metas)
    (map.get c.new-blobs.result.chains)
    (λ k. rw c.new-blobs.ensures.metas (map.get-empty nat_cmp k))
    (λ k. rw c.new-blobs.ensures.chains (map.get-empty nat_cmp k)))

pub blob_at-requires-clause-device : goal.blob_at-requires-clause-device
blob_at-requires-clause-device g c = c.requires.device ∙ sym c.loop-place.invariant.same.pages

pub blob_at-requires-clause-inside : goal.blob_at-requires-clause-inside
blob_at-requires-clause-inside g c =
    let x = c.loop-place.invariant.same.pages in let y = c.requires.inside in omega (arith, x, y)

pub add-requires : goal.add-requires
add-requires g c = c.loop-place.invariant.few

pub returns-in_err-blob-clause-same : goal.returns-in_err-blob-clause-same
returns-in_err-blob-clause-same g c =
    read_on g.D.PageDisk c.args.disk.now c.loop-place.disk c.blob_at.new.disk c.loop-place.invariant.same
    c.blob_at.ensures.same

pub returns-in_err-add-clause-same : goal.returns-in_err-add-clause-same
returns-in_err-add-clause-same g c =
    read_on g.D.PageDisk c.args.disk.now c.loop-place.disk c.blob_at.new.disk c.loop-place.invariant.same
    c.blob_at.ensures.same

pub returns-in_err-blob-clause-fault : goal.returns-in_err-blob-clause-fault
returns-in_err-blob-clause-fault g c =
    let d = g.D.PageDisk in let s = c.args.sup.now in let b = c.loop-place.blobs in let why = c.in_err-blob.field-0.0 in
    λ told. let x = place_fails d s c.args.heads.now c.args.disk.now c.loop-place.disk (map.get b.metas)
    (map.get b.chains) b.slots c.loop-place.place c.loop-place.invariant why c.loop-place-test.true told
    (c.in_err-blob.ensures.fault told) in search rules

pub returns-in_err-blob-clause-counted : goal.returns-in_err-blob-clause-counted
returns-in_err-blob-clause-counted g c =
    let d = g.D.PageDisk in let s = c.args.sup.now in let b = c.loop-place.blobs in let why = c.in_err-blob.field-0.0 in
    let x : IsOnlyFault (d.read_faults c.args.disk.now) (d.read_faults c.blob_at.new.disk) why =
    counted_first d s c.args.heads.now c.args.disk.now c.loop-place.disk (map.get b.metas)
    (map.get b.chains) b.slots c.loop-place.place c.loop-place.invariant c.blob_at.new.disk why
    c.in_err-blob.ensures.counted in search rules

pub returns-in_err-add-clause-fault : goal.returns-in_err-add-clause-fault
returns-in_err-add-clause-fault g c =
    let d = g.D.PageDisk in let s = c.args.sup.now in let b = c.loop-place.blobs in let why = c.in_err-add.field-0.0 in
    let says : SaysAt d s c.loop-place.disk c.args.heads.now c.loop-place.place (Some c.in-Some.blob) =
    subst (λ (o : Option Blob). SaysAt d s c.loop-place.disk c.args.heads.now c.loop-place.place o) c.in-Some.is
    c.in_ok-blob.ensures.found in
    λ told. let x = add_fails d s c.args.heads.now c.args.disk.now c.loop-place.disk (map.get b.metas)
    (map.get b.chains) b.slots c.loop-place.place c.loop-place.invariant c.in-Some.blob says why c.loop-place-test.true
    told c.in_err-add.ensures.fault in search rules

pub returns-in_err-add-clause-counted : goal.returns-in_err-add-clause-counted
returns-in_err-add-clause-counted g c =
    let d = g.D.PageDisk in let why = c.in_err-add.field-0.0 in
    let x : IsOnlyFault (d.read_faults c.args.disk.now) (d.read_faults c.blob_at.new.disk) why =
    refused_uncounted (d.read_faults c.args.disk.now)
    (d.read_faults c.blob_at.new.disk) c.loop-place.blobs.slots c.loop-place.place c.in-Some.blob.meta why
    (c.in_ok-blob.ensures.quiet ∙ c.loop-place.invariant.quiet) c.in_err-add.ensures.fault in
    search rules

-- how many reads a place takes
abbrev ReadsFor : {D : Type 0} → Ghosts D → Heads → D → D → Option Blob → Type 0
ReadsFor d heads disk new blob =
    d.reads new ≤ d.reads disk + reads_to_test heads 1 + option_map_or (λ (p : List ℕ). length p) (chain_in blob) 0

pub loop-place-preserved : goal.loop-place-preserved
loop-place-preserved g c =
    let d =
    g.D.PageDisk in let s =
    c.args.sup.now in let first = c.args.disk.now in let disk = c.loop-place.disk in let new = c.blob_at.new.disk in
    let b = c.loop-place.blobs in let place = c.loop-place.place in let old = c.loop-place.invariant in
    let heads = c.args.heads.now in
    elim c.match-branch-2.branch [
      | in-Some+in_ok-add w ↦
          let blob = w.in-Some.blob in
          let says : SaysAt d s disk heads place (Some blob) =
          subst (λ (o : Option Blob). SaysAt d s disk heads place o) w.in-Some.is c.in_ok-blob.ensures.found in
          let more =
          subst (λ (o : Option Blob). ReadsFor d heads disk new o) w.in-Some.is c.in_ok-blob.ensures.reads in
          let e = w.in_ok-add.ensures in
          let few = subst (λ (n : ℕ). n ≤ 16777216) e.slots e.few in
          rw (w.blobs-is, e.metas, e.chains, e.slots)
          (inserted d s heads first new b.metas b.chains (b.slots + length blob.meta.map)
          (place + 1) place blob.meta blob.pages
          (one_there d s heads first disk (map.get b.metas)
          (map.get b.chains) b.slots place old new c.blob_at.ensures.same c.in_ok-blob.ensures.quiet blob more says
          few))
      | in_default w ↦
          let no : SaysAt d s disk heads place None =
          subst (λ (o : Option Blob). SaysAt d s disk heads place o) w.in_default.is c.in_ok-blob.ensures.found in
          let more : ReadsFor d heads disk new None =
          subst (λ (o : Option Blob). ReadsFor d heads disk new o) w.in_default.is c.in_ok-blob.ensures.reads in
          rw w.blobs-is
          (none_there d s heads first disk (map.get b.metas)
          (map.get b.chains) b.slots place old new c.blob_at.ensures.same c.in_ok-blob.ensures.quiet
          (omega (arith, more)) no)
    ]

done : (n m : ℕ) → n ≤ m → m ≤ n → n ≡ m
done n m a b = omega (arith, a, b)

pub returns-clause-found : goal.returns-clause-found
returns-clause-found g c =
    let d = g.D.PageDisk in
    let s = c.args.sup.now in
    let w = c.loop-place.invariant in
    let metas = map.get c.loop-place.blobs.metas in
    let chains = map.get c.loop-place.blobs.chains in
    let all = done _ _ c.loop-place.auto.place-end c.loop-place-test.false in
    λ told. whole_region (region_look s (d.now c.args.disk.now)) (region_of s) c.args.heads.now metas chains
    c.requires.fits
    (subst
    (λ (n : ℕ).
    AreWholeBelow (region_look s (d.now c.args.disk.now)) (region_of s) c.args.heads.now n metas chains)
    all (w.told told))
    (subst (λ (n : ℕ). HasNoneFrom metas n) all w.none) w.read.none

pub returns-clause-read : goal.returns-clause-read
returns-clause-read g c = c.loop-place.invariant.read

pub returns-clause-reads : goal.returns-clause-reads
returns-clause-reads g c =
    let d = g.D.PageDisk in
    subst
    (λ (n : ℕ). d.reads c.loop-place.disk ≤ d.reads c.args.disk.now + reads_to_test c.args.heads.now n
    + pages_together n (map.get c.loop-place.blobs.chains))
    (done _ _ c.loop-place.auto.place-end c.loop-place-test.false) c.loop-place.invariant.reads

-- so many places were tested at most, and the chains have at most as many pages as the region
few_so_far : {D : Type 0} (d : Ghosts D) (s : Super) (heads : Heads) (first disk : D) (metas : Metas) (chains : Chains)
    (slots place : ℕ) → Walked d s heads first disk metas chains slots place → IsTrue d.tells
    → d.reads disk ≤ d.reads first + reads_to_test heads place + s.md_len
few_so_far d s heads first disk metas chains slots place w told =
    let few = few_pages (region_look s (d.now first)) s heads metas chains place (w.told told).blobs in
    let reads = w.reads in
    omega (arith, few, reads)

pub returns-clause-at_ok : goal.returns-clause-at_ok
returns-clause-at_ok g c =
    let d = g.D.PageDisk in
    let b = c.loop-place.blobs in
    λ told. subst
    (λ (n : ℕ). d.reads c.loop-place.disk ≤ d.reads c.args.disk.now + reads_to_test c.args.heads.now n
    + c.args.sup.now.md_len)
    (done _ _ c.loop-place.auto.place-end c.loop-place-test.false)
    (few_so_far d c.args.sup.now c.args.heads.now c.args.disk.now c.loop-place.disk (map.get b.metas)
    (map.get b.chains) b.slots c.loop-place.place c.loop-place.invariant told)

pub returns-clause-at_most : goal.returns-clause-at_most
returns-clause-at_most g c = λ told. let most = returns-clause-at_ok g c told in omega (arith, most)

pub returns-in_err-blob-clause-at_most : goal.returns-in_err-blob-clause-at_most
returns-in_err-blob-clause-at_most g c =
    let d = g.D.PageDisk in
    let b = c.loop-place.blobs in
    let place = c.loop-place.place in
    λ told.
    let so_far =
    few_so_far d c.args.sup.now c.args.heads.now c.args.disk.now c.loop-place.disk (map.get b.metas)
    (map.get b.chains) b.slots place c.loop-place.invariant told in
    let tested = tests_within c.args.heads.now place c.args.sup.now.md_len c.loop-place-test.true in
    let more = c.in_err-blob.ensures.few in
    omega (arith, so_far, tested, more)

pub returns-in_err-add-clause-at_most : goal.returns-in_err-add-clause-at_most
returns-in_err-add-clause-at_most g c =
    let d = g.D.PageDisk in
    let s = c.args.sup.now in
    let b = c.loop-place.blobs in
    let place = c.loop-place.place in
    let blob = c.in-Some.blob in
    let says : SaysAt d s c.loop-place.disk c.args.heads.now place (Some blob) =
    subst (λ (o : Option Blob). SaysAt d s c.loop-place.disk c.args.heads.now place o) c.in-Some.is
    c.in_ok-blob.ensures.found in
    let more : ReadsFor d c.args.heads.now c.loop-place.disk c.blob_at.new.disk (Some blob) =
    subst (λ (o : Option Blob). ReadsFor d c.args.heads.now c.loop-place.disk c.blob_at.new.disk o) c.in-Some.is
    c.in_ok-blob.ensures.reads in
    λ told.
    let so_far =
    few_so_far d s c.args.heads.now c.args.disk.now c.loop-place.disk (map.get b.metas) (map.get b.chains) b.slots
    place c.loop-place.invariant told in
    let tested = tests_within c.args.heads.now place s.md_len c.loop-place-test.true in
    let chain =
    chain_of_region says.look s place blob.meta blob.pages
    (the_one says.look (region_of s) c.args.heads.now place blob says.says) in
    let long = few_places s.md_len blob.pages chain.differ chain.low in
    omega (arith, so_far, tested, more, long)

pub returns-clause-few : goal.returns-clause-few
returns-clause-few g c =
    let w = c.loop-place.invariant in
    subst (λ (n : ℕ). slots_together n (map.get c.loop-place.blobs.metas) ≤ 16777216)
    (done _ _ c.loop-place.auto.place-end c.loop-place-test.false)
    (let a = w.count in let b = w.few in omega (arith, a, b))

pub returns-clause-same : goal.returns-clause-same
returns-clause-same g c = c.loop-place.invariant.same

pub returns-clause-quiet : goal.returns-clause-quiet
returns-clause-quiet g c = c.loop-place.invariant.quiet
