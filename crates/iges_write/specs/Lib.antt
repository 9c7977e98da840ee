pub mod Cards
pub mod CanonicalFile
