-- The answers on profiles and plans as structs of numbers.
pub mod Numbers
