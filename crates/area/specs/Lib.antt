-- The lent work area: its length, and its clearing.
pub mod Area
pub mod Clearing
