use Rattle.std.proofs.Common.{◌≡◌, IsUtf8, rules, subst, sym}
use Rattle.blob_report.specs.Pieces.{shown_bytes}
use Rattle.listing_text.proofs.Ascii.{shown_utf8}
use Rattle.listing_text.proofs.objects.shown.Goals as goal

pub unreachable-requires : goal.unreachable-requires
unreachable-requires c =
    let same : c.push_pieces.new.into.items ≡ shown_bytes c.args.bytes.now = search rules in
    let never = c.in-Err.ensures.succeeds (subst IsUtf8 (sym same) (shown_utf8 c.args.bytes.now)) in cc never
