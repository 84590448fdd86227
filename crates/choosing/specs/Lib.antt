-- Choosing between two openings: what the calls answer, and the laws behind the code.
pub mod Choosing
pub mod Comparing
