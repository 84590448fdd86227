-- What is proved of the calls' contracts.
pub mod ByHand
pub mod Determined
pub mod Sheets
pub mod Part
pub mod NumbersGiven
pub mod Nineteen
pub mod NamedFields
