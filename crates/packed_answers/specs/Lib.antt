-- The answers on packed orders as structs of numbers.
pub mod Numbers
