-- Of a blob that is there, where no repair is left: it is stored well, and its volume is shown whatever an image holds.
use Rattle.std.proofs.Common.{◌≡◌, ℕ, Some, ap, ◌∙◌}
use Rattle.std.specs.Option.{option_map}
use Rattle.page_disk.specs.Disk.{Image}
use Rattle.volume_model.specs.Volumes.{Volume}
use Rattle.blob_meta.specs.declared.meta.Meta.{Meta}
use Rattle.blob_meta.specs.Repairs.{HasNoMarks}
use Rattle.shown_volumes.specs.StoredLaws.{IsStoredWell}
use Rattle.store_model.specs.StoreState.{shown}
use Rattle.store_model.proofs.Known.{Known}
use Rattle.store_model.proofs.Meanwhile.{reading}
use Rattle.store_model.proofs.OneReplacement.{base_steady}
use Rattle.store_model.proofs.Shows.{or_empty}
use Rattle.store_model.proofs.ShowsGiven.{by, shown_is}

module _ (known : Known) (unmarked : HasNoMarks known.p.base) where
  open known use {p}

  pub was_stored : (h : ℕ) (m : Meta) → p.base h ≡ Some m → IsStoredWell p.super h m
  was_stored h m is = let was = base_steady known unmarked h m is in record { stored = was.stored; named = was.named }

  -- a volume that is there, whatever an image holds
  abbrev pub its : Image → ℕ → Meta → Volume
  its image h m =
      by (reading p image) (base_steady known unmarked) p.base (or_empty (p.live h)) h m

  pub is_its : (image : Image) (h : ℕ) (m : Meta) → p.base h ≡ Some m → shown (reading p image) h ≡ Some (its image h m)
  is_its image h m there = shown_is (reading p image) (base_steady known unmarked) h
      ∙ ap (λ o. option_map (by (reading p image) (base_steady known unmarked) p.base (or_empty (p.live h)) h) o) there
