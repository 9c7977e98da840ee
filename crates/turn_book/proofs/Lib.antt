pub mod Prefixes
pub mod Totals
pub mod Views
pub mod StepsKeep
pub mod PartsKeep
