pub mod Finding
pub mod WordLaws
pub mod NumberLaws
pub mod RuleLaws
pub mod LineLaws
pub mod FittingLaws
pub mod RulesFit
pub mod RulesRead
pub mod TableLaws
pub mod NameLaws
pub mod OneLine
pub mod LineRead
pub mod RecordLaws
mod LineFacts
pub mod SessionLaws
mod StandardFacts
