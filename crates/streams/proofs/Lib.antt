-- The laws, theorems and computed facts of this crate, and what its proofs share.
pub mod Kept
pub mod StreamLaws
pub mod EntriesLaws
pub mod AsWritten
pub mod Told
pub mod Splitting
