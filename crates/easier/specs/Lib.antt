-- R51, easier jobs, never a worse plan: over the packed orders, and over the outcomes that the calls' contracts allow.
pub mod EasierBytes
pub mod NeverWorse
pub mod AsWritten
pub mod EasierOrders
pub mod NeverWorseLaws
