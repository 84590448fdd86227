-- Streams of orders: their entries, and what is held of one while it comes in pieces.
pub mod Entries
pub mod Stream
pub mod Counting
