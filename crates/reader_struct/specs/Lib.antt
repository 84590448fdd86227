-- The reader that holds the caller's bytes and a place.
pub mod Standing
