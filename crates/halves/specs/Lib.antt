-- Planning an order of halves: what it answers, the laws behind the code, and what is proved of the answers.
pub mod Calls
pub mod Awaiting
pub mod AwaitingLaws
