-- The laws, theorems and computed facts of this crate, and what its proofs share.
pub mod JoinedBytes
pub mod Joining
