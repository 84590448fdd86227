-- What is proved of the calls' contracts.
pub mod Determined
pub mod ReadingLaws
pub mod AnswerSays
pub mod Edges
