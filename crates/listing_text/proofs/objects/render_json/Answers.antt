use Rattle.std.proofs.Common.{◌≡◌, ◌++◌, ◌∙◌, ℕ, List, false, string_bytes, ap, subst, sym}
use Rattle.std.specs.Prelude.{codes}
use Rattle.serde_json.specs.Data.{Data}
use Rattle.serde_json.specs.Written.{compact_text, has_float}
use Rattle.listing_text.proofs.Floats.{no_float}
use Rattle.listing_text.specs.Json.{data_of}
use Rattle.listing_text.specs.Listing.{Listing, listing_of}
use Rattle.listing_text.proofs.objects.render_json.Goals as goal

pub returns : goal.returns
returns g c =
    let listing : Listing = listing_of c.args.loaded.now in
    let whole = subst (λ (d : Data). has_float d ≡ false) (sym c.in_ok-value.ensures) (no_float listing) in
    let written : string_bytes c.in_ok-to_string.field-0 ≡ compact_text (data_of listing) =
    c.in_ok-to_string.ensures.text whole ∙ ap compact_text c.in_ok-value.ensures in
    c.in_ok-push.ensures.items ∙ ap (λ v. v.items ++ codes "\n") c.into_bytes-text.ensures.value
    ∙ ap (λ (text : List ℕ). text ++ codes "\n") written
