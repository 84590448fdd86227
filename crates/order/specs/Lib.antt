-- Jobs, choices and what running a choice gives: the definitions by the rules, and their laws.
pub mod Job
pub mod Given
pub mod Later
pub mod Easier
pub mod Choice
pub mod Halves
