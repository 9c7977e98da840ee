pub mod Enclosed
pub mod Nests
pub mod LawfulChains
pub mod Levels
pub mod Undone
pub mod Scales
pub mod StandardFacts
