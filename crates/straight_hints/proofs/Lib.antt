pub mod Bounded
pub mod CasesTaken
pub mod Every
pub mod RulesTaken
pub mod Short
pub mod Written
