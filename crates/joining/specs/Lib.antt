-- R16, demand 3, stated and proved over the outcomes that the calls' contracts allow.
pub mod Calls
pub mod Demand3
