-- Repeating jobs: what the code that judges and counts them asks for and gives, and its laws.
pub mod Repeating
pub mod RepeatingLaws
