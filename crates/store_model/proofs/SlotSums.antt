-- The slots of all maps together, where one map is another, and those of the volumes that are shown.
pub use Rattle.shown_volumes.proofs.SlotSums.{slots_in, slots_given, slots_shown, slots_at_shown, all_shown}
