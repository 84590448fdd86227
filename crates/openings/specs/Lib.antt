-- The question on two openings: what it answers, and its laws.
pub mod Answer
pub mod AnswerLaws
