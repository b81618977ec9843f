pub mod ChannelTurns
pub mod ClaimTurns
pub mod FillTurns
