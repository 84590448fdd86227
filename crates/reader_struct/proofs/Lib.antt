-- What is proved of the calls' contracts.
pub mod Determined
pub mod StandingLaws
