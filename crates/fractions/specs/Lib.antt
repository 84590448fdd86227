-- Fractions in lowest terms: the definition, a few of them computed, and the laws.
pub mod Fractions
pub mod AsWritten
pub mod FractionsLaws
