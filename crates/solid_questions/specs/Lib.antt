pub mod Questions
pub mod QuestionCells
pub mod Refusals
pub mod Bodies
