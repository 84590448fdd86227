-- The laws, theorems and computed facts of this crate, and what its proofs share.
pub mod AsWritten
pub mod LegalLaws
pub mod LegalIs
pub mod BestLaws
