-- Tomorrow's frame is today's again: laws over the calls.
pub mod Planned
pub mod Again
