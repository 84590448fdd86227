-- The first number of a list that stood earlier in it: the definition, and the steps of the search.
pub mod Repeats
pub mod RepeatLaws
