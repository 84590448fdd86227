-- Weight rows: the earliest bus-free time for each weight kept, from job to job; profile, worth and plan read off them.
pub mod Row
pub mod ByTime
pub mod Walk
