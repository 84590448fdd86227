-- Packed plans as the code reads and writes them.
pub mod Asks
pub mod Steps
pub mod Plans
