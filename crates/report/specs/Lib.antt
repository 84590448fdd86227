-- The text that the program prints, as a function of the bytes that it reads.
pub mod Report
pub mod AsPrinted
pub mod Writing
pub mod WritingLaws
pub mod Telling
pub mod Longer
