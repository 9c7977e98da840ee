pub mod Spans
pub mod Roots
pub mod Values
pub mod Places
