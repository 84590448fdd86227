-- What is proved of the call's contract.
pub mod Determined
pub mod CallLaws
pub mod ExtendingLaws
pub mod Answers
