pub mod Pieces
pub mod PageText
pub mod Text
pub mod StoreText
pub mod Summary
pub mod ExportText
