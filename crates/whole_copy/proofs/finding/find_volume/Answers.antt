use Rattle.std.proofs.Common.{◌≡◌, ◌*◌, ◌∙◌, sym, ap, ap₂, subst, length}
use Rattle.std.specs.Option.{option_copied}
use Rattle.shown_volumes.specs.Shown.{fixed_of}
use Rattle.super_block.specs.Numbers.{cluster_pages_of}
use Rattle.whole_copy.specs.Meant.{IsVolume, volumes_shown}
use Rattle.whole_copy.proofs.VolumesShown.{is_volume, shows_metas}
use Rattle.whole_copy.proofs.finding.find_volume.Goals as goal

pub returns-in_err-head-clause-none : goal.returns-in_err-head-clause-none
returns-in_err-head-clause-none c =
    let s = c.args.sup.now in
    let metas = c.args.metas.now in
    let placed = c.regions_are_placed.ensures s c.requires.faultless in
    rw c.from_residual.ensures (λ image.
    c.find.ensures.meant (fixed_of s) (volumes_shown s metas image) (shows_metas s metas placed c.requires.held image)
    ∙ c.in_err-head.was)

pub returns-clause-some : goal.returns-clause-some
returns-clause-some c =
    let s = c.args.sup.now in
    let metas = c.args.metas.now in
    let placed = c.regions_are_placed.ensures s c.requires.faultless in
    let there = sym c.get.ensures ∙ ap option_copied c.in_ok-meta.was in
    let pages : c.from.result * c.from-2.result ≡ cluster_pages_of s * length c.in_ok-meta.meta.now.map =
    ap₂ (λ a b. a * b) (c.from.ensures ∙ c.cluster_pages.ensures.value) (c.from-2.ensures ∙ c.len.ensures) in
    record {
      is_volume = subst (λ pages. IsVolume s metas (record { head = c.in_ok-head.head; pages = pages })) (sym pages)
          (is_volume s metas placed c.requires.held c.in_ok-head.head c.in_ok-meta.meta.now there);
      named = λ image.
          c.find.ensures.meant (fixed_of s) (volumes_shown s metas image)
          (shows_metas s metas placed c.requires.held image) ∙ c.in_ok-head.was;
    }
