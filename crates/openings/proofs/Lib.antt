-- What is proved of the calls' contracts.
pub mod Inputs
pub mod Determined
pub mod Outcomes
