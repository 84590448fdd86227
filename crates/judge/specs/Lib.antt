-- The checks of an order: the answer of each call, and what the code's loops say on the way.
pub mod Verdicts
pub mod Gathering
pub mod Told
pub mod Kind
