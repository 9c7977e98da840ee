pub mod CardSteps
pub mod Columns
pub mod LinesIn
pub mod EntitySteps
pub mod FileParts
pub mod StandardFacts
