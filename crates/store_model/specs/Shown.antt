-- The volumes that metadata and an image show.
pub use Rattle.shown_volumes.specs.Shown.{fixed_of, content_by, content, volume_of, or_empty, shown_by, shows}
