pub mod Keys
pub mod Entries
pub mod Keeping
pub mod KeyTests
pub mod Steps
pub mod Fronts
mod StandardFacts
pub mod SentMemos
