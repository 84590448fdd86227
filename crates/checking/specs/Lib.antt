-- Checking whether a packed plan is legal.
pub mod Calls
pub mod Turns
pub mod Marks
pub mod TurnLaws
pub mod Judged
pub mod CallLaws
pub mod Answers
