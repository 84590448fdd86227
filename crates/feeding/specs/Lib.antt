-- Feeding a stream in pieces: what the calls ask and give, and what two pieces give.
pub mod Calls
pub mod Feeding
pub mod FeedingLaws
pub mod TakingLaws
pub mod StateLaws
pub mod Pieces
