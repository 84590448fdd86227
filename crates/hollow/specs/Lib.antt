-- Hollow versions of the calls: contracts as relations, hollow versions, named inputs, and that each version is shut out.
pub mod Contract
pub mod Laws
pub mod Promises
pub mod Generated
pub mod Hollow
pub mod Named
pub mod Computed
pub mod ShutOut
pub mod Extensions
pub mod Totals
pub mod Sheets
