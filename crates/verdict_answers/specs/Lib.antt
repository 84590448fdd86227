-- The answers of checking in numbers.
pub mod Numbers
