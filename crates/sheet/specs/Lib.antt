-- Sheets over orders: their figures, the laws of joining them, and sheets as numbers.
pub mod Sheet
pub mod AsWritten
pub mod Answered
pub mod Joining
pub mod SheetLaws
pub mod NumbersLaws
pub mod FitsLaws
pub mod AnsweredLaws
