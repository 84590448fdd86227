-- How the jobs of an order are held.
pub mod Held
