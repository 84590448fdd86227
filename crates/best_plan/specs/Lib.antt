-- Checking whether a plan is best: what the call answers, and the laws behind the code.
pub mod Calls
pub mod Weights
pub mod WeightLaws
pub mod Most
pub mod CallLaws
pub mod Answers
