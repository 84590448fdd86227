-- Repeating jobs and one frame of them: the definitions by the rules, and their laws.
pub mod Frames
pub mod Facts
