-- A list of points pushed by a job at one rate.
pub mod Pushes
pub mod Numbers
pub mod Waits
pub mod Places
pub mod PushLaws
