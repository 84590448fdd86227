-- Heat-up lengths: the rule (R19, R20), the answer of the call, and the table that it once read.
pub mod Heat
pub mod Answer
pub mod Degree
pub mod AnswerSays
pub mod Table
