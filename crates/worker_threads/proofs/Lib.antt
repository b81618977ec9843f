pub mod Crossing
pub mod Led
pub mod Senders
pub mod OwnChannels
pub mod RunsEnded
