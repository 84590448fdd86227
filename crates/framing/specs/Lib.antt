-- Framing: the answer of the call and the lent bytes after it, and what the code says on the way.
pub mod Answer
pub mod AnswerLaws
pub mod AnswerSays
