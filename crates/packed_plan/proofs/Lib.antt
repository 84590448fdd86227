-- The laws, theorems and computed facts of this crate, and what its proofs share.
pub mod PlanLaws
pub mod BothWays
pub mod Writing
pub mod AsWritten
pub mod Padding
