pub mod ReadRows
pub mod JoinedLines
mod BadEntries
pub mod RowLoops
pub mod Blanks
pub mod FormFacts
pub mod DirectoryFacts
pub mod AcceptedFacts
pub mod FirstFaults
pub mod OneOutcome
pub mod WrittenNumbers
pub mod WrittenLines
pub mod WrittenCards
pub mod WrittenTexts
pub mod WrittenGlobals
pub mod WrittenEntries
pub mod WrittenRecords
pub mod WrittenFiles
