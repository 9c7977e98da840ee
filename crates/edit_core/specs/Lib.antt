pub mod EditFaults
pub mod Batches
pub mod Edits
pub mod Versions
pub mod Placing
