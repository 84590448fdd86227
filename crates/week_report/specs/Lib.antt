-- The text that the program prints for a stream.
pub mod WeekText
pub mod Telling
pub mod TellingLaws
