-- The text of a listing, by its format.
use Rattle.std.specs.Prelude.{ℕ, List}
use Rattle.running_store.specs.declared.loaded.Loaded.{Loaded}
use Rattle.blob_report.specs.StoreText.{store_text}
use Rattle.listing_text.specs.Json.{json_of}
use Rattle.listing_text.specs.Listing.{listing_of}
use Rattle.listing_text.specs.Tree.{tree_of}
use Rattle.listing_text.specs.declared.format.ListFormat.{ListFormat}
use Rattle.listing_text.specs.declared.format.ListFormat.TheVariants.{Json, Lines, Tree}

-- in lines it is the text that tells each value by its word
abbrev pub listing_text : ListFormat → {D : Type 0} → Loaded D → List ℕ
listing_text Lines loaded = store_text loaded
listing_text Json loaded = json_of (listing_of loaded)
listing_text Tree loaded = tree_of (listing_of loaded)
