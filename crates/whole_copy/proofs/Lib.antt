mod VolumesShown
mod PagesRead
mod CopySteps
