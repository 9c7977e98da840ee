pub mod StandardFacts
pub mod Cuts
pub mod Orders
pub mod Extremes
pub mod SomeExtent
pub mod Filling
