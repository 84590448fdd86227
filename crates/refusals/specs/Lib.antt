-- The refusals' numbers and the fields' figures: the definitions, and that each is told back.
pub mod Numbers
pub mod NumbersLaws
