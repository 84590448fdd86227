-- Signed seconds: the numbers that the rules fix, the ranges of times, and how the prover reads signed numbers; and when a
-- contract determines what it speaks of, for all crates above.
pub mod Limits
pub mod Ranges
pub mod Signed
pub mod RangesLaws
pub mod Twos
pub mod Determined
