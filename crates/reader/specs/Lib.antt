-- The reader: what it answers over bytes at a place, and the laws of that.
pub mod Reading
