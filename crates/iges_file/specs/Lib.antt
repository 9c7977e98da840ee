pub mod Faults
pub mod Entities
pub mod Files
