-- The laws, theorems and computed facts of this crate, and what its proofs share.
pub mod LayoutLaws
pub mod Appended
pub mod PackedLaws
pub mod RefusalLaws
pub mod FieldLaws
pub mod RefusalPlaces
pub mod Packless
pub mod Steps
pub mod Accepted
pub mod RoundTrip
pub mod Edges
