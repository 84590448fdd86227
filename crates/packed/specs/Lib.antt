-- Packed orders: layouts, the order in bytes and in numbers, the refusals, both round trips, and their laws.
pub mod Layout
pub mod Places
pub mod PlacesLaws
pub mod Packed
pub mod Judge
pub mod JudgeLaws
pub mod Refusals
