-- Packing: the answer of the call and the lent bytes after it, and what the code's loop says on the way.
pub mod Answer
pub mod Writing
pub mod WritingLaws
pub mod AnswerLaws
pub mod AnswerSays
