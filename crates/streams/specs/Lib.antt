pub use Rattle.page_disk.specs.Disk
pub use Rattle.blob_report.specs.Text
pub mod Streams
pub mod Lists
pub mod Printing
