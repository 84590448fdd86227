-- The laws, theorems and computed facts of this crate, and what its proofs share.
pub mod RowLaws
pub mod Reach
pub mod ReadLaws
pub mod ByTimeLaws
pub mod WalkLaws
pub mod PlanLaws
pub mod Examples
