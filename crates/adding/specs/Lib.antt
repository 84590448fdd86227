-- One order more on a sheet: the call, and the laws behind its code.
pub mod Calls
pub mod Adding
pub mod AddingLaws
pub mod Weeks
