-- What is proved of the call's contract.
pub mod Determined
pub mod Outcomes
pub mod TableLaws
