-- One list of points to the next in the work area.
pub mod Stepping
pub mod Before
pub mod Cases
