-- The laws, theorems and computed facts of this crate, and what its proofs share.
pub mod AsWritten
pub mod Rising
pub mod Points
pub mod Greatest
pub mod Worth
pub mod Last
pub mod Extending
pub mod BetterOf
pub mod Joining
pub mod Closure
pub mod Stepwise
pub mod NoWorseLaws
