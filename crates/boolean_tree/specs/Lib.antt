pub mod Faults
pub mod Verdicts
pub mod Spelling
pub mod Stacks
