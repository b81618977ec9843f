mod Regions
mod NewStore
mod SuperBlobPage
mod FirstPage
mod NewMasks
mod BareMetas
mod Loading
