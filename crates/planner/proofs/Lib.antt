-- What is proved of the call's contract.
pub mod Determined
pub mod Planning
pub mod Outcomes
