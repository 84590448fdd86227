-- Better-of: what the call answers, and the laws behind the code.
pub mod Answer
pub mod InTurn
pub mod Heavier
pub mod Merging
pub mod MergingLaws
pub mod AnswerLaws
pub mod AnswerSays
