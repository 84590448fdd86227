-- The laws, theorems and computed facts of this crate, and what its proofs share.
pub mod AsWritten
pub mod SameOrder
pub mod UnreadLaws
