pub mod Steps
pub mod TurnRules
pub mod Seats
pub mod Passes
