use Rattle.std.proofs.Common.{◌≡◌, ℕ, ◌+◌, ◌*◌, ◌≤◌, List, refl, ap, ◌∙◌, arith}
use Rattle.std.proofs.Math.Nat.{mul-le-mul_right}
use Rattle.super_block.specs.declared.page.Super.{Super}
use Rattle.super_block.specs.Numbers.{cluster_pages_of, clusters_of, fixed_clusters_of}
use Rattle.super_block.specs.Page.{super_of}
use Rattle.super_block.specs.Placed.{IsPlaced}
use Rattle.unclean_load.proofs.super_page.super_on.Goals as goal

given_pages : (page : List ℕ) (pages : ℕ) → (super_of page pages).device_pages ≡ pages
unfolding super_of
given_pages page pages = refl

-- the metadata region ends before the fixed clusters do, and these before the device does
md_inside : (s : Super) → IsPlaced s → s.md_start + s.md_len ≤ s.device_pages
md_inside s placed =
    let few : fixed_clusters_of s * cluster_pages_of s ≤ clusters_of s * cluster_pages_of s =
    mul-le-mul_right (cluster_pages_of s) placed.fixed_clusters in
    let end = placed.md_end in
    let device = placed.on_device in
    omega (arith, few, end, device)

pub returns-in-Ok-clause-device : goal.returns-in-Ok-clause-device
returns-in-Ok-clause-device g c =
    ap (λ (s : Super). s.device_pages) c.in-Ok.ensures.found ∙ given_pages _ _ ∙ c.pages-pages.ensures

pub returns-in-Ok-clause-inside : goal.returns-in-Ok-clause-inside
returns-in-Ok-clause-inside g c =
    let inside = md_inside c.in-Ok.sup (c.regions_are_placed.ensures c.in-Ok.sup c.in-Ok.ensures.faultless) in
    let device : c.in-Ok.sup.device_pages ≡ g.D.PageDisk.pages c.args.disk.now =
    ap (λ (s : Super). s.device_pages) c.in-Ok.ensures.found ∙ given_pages _ _ ∙ c.pages-pages.ensures in
    omega (arith, inside, device)
