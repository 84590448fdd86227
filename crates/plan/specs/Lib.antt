-- The plan of an order: its definition by the rules, and its laws.
pub mod Plan
pub mod Frames
pub mod NoWorse
pub mod Paper
