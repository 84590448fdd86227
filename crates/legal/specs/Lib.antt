-- Legal plans.
pub mod Legal
