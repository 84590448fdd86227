-- The answers on openings as structs of numbers.
pub mod Numbers
