pub mod Faults
pub mod Lines
pub mod Words
pub mod Tables
pub mod Grammar
pub mod Scripts
pub mod Sessions
pub mod Reading
