-- The worked examples, a week of orders and the figures of the rules, computed on the definitions.
pub mod Figures
pub mod Examples
pub mod Rest
pub mod Halves
pub mod Plans
pub mod Frames
pub mod Week
