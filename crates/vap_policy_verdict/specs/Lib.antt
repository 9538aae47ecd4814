pub mod DecisionAnnotations
pub mod AnswerText
pub mod Cut
pub mod Failures
pub mod Members
pub mod Sentences
pub mod Verdicts
