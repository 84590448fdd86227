-- Point records, as the numbers that they hold, and the laws behind the lookup over them.
pub mod Records
pub mod RecordLaws
pub mod AsWritten
