-- What is proved of the contract of who wins.
pub mod Determined
pub mod AsWritten
pub mod WinningLaws
