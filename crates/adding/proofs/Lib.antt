-- What the contract of one order more fixes.
pub mod Determined
