-- What is proved of the contract of the question by a tie.
pub mod Determined
pub mod Edges
pub mod ChoosingLaws
pub mod AnswerSays
pub mod WinnerLaws
pub mod TieLaws
