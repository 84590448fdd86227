-- The answers of the calls on sheets in numbers.
pub mod Numbers
