pub mod Calls
pub mod Causes
pub mod Gates
pub mod Memory
