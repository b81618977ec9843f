pub mod SuperBlob
pub mod NewStore
