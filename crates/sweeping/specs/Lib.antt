-- Steps by the cells of a list.
pub mod Sweep
pub mod RowSays
pub mod Moving
pub mod RowLaws
pub mod SweepLaws
