-- Profiles held as alternating numbers: what the calls over them answer, and the laws behind the code.
pub mod Numbers
pub mod Answer
pub mod Places
pub mod NumbersLaws
pub mod OnePass
pub mod ByTime
pub mod ByTimeLaws
pub mod AnswerLaws
pub mod AnswerSays
pub mod PlacesLaws
pub mod Writing
