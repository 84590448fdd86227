-- The laws, theorems and computed facts of this crate, and what its proofs share.
pub mod Pushing
pub mod StepLaws
pub mod PrefixLaws
pub mod Clipping
pub mod WalkLaws
pub mod WaysLaws
pub mod Examples
