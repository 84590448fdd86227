-- The laws, theorems and computed facts of this crate, and what its proofs share.
pub mod AsWritten
pub mod FramesAsWritten
pub mod Comparing
pub mod Ranking
pub mod TieRule
pub mod First
pub mod PlanIs
pub mod PlanProfile
pub mod Figures
pub mod Late
pub mod PaperLaws
pub mod FramesLaws
pub mod NoWorseLaws
pub mod NotPromised
