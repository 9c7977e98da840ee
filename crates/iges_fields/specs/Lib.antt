pub mod Delimiters
pub mod Faults
pub mod Grammar
pub mod Layout
pub mod Reading
pub mod Readers
