-- What is proved of the call's contract.
pub mod Determined
pub mod Outcomes
pub mod AsWritten
pub mod CallLaws
pub mod Answers
