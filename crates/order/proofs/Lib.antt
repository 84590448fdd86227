-- The laws, theorems and computed facts of this crate, and what its proofs share.
pub mod AsWritten
pub mod EasierLaws
pub mod Within
pub mod Moves
pub mod Runs
pub mod Outcomes
pub mod GivenLaws
pub mod Counts
pub mod Rested
pub mod OneRate
pub mod HalvesLaws
pub mod Late
pub mod LaterLaws
