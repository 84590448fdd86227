-- What several proofs of the crate rest on.
pub mod Lesser
