-- The greatest common divisor and the least common multiple: the definitions, their laws, and the step by which code finds them.
pub mod Multiples
pub mod AsWritten
pub mod MultiplesLaws
