-- What the contract of joining fixes.
pub mod Determined
