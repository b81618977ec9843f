pub mod CleanImages
