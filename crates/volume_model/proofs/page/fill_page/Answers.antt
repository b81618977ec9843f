use Rattle.std.proofs.Common.{◌≡◌, length, arith, ap, ◌∙◌}
use Rattle.std.specs.List.{repeat}
use Rattle.volume_model.specs.Volumes.{fill_page}
use Rattle.volume_model.proofs.Pages.{all_repeat}
use Rattle.volume_model.proofs.page.fill_page.Goals as goal

pub returns : goal.returns
unfolding fill_page
returns c =
    let eight : length c.to_le_bytes-bytes.result ≡ 8 = ap length c.to_le_bytes-bytes.ensures in
    all_repeat c.loop-at.byte-items c.to_le_bytes-bytes.result c.loop-at-test.array_long eight
    (λ k lt. c.loop-at.invariant k (omega (arith, lt, c.loop-at-test.false)))
    ∙ ap (repeat 512) c.to_le_bytes-bytes.ensures
