-- Scheduling points as numbers of the work area, one number a point, and lists of them at a place.
pub mod Code
pub mod CodeLaws
pub mod Held
pub mod HeldLaws
pub mod Cuts
