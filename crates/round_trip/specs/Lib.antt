-- Packing and unpacking, one after the other: both ways without loss, over any outcomes that the calls' contracts allow.
pub mod BothWays
pub mod RoundTrip
