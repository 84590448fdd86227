-- The text of a sheet: what it is, two of them computed, how the code puts it together, and what its lines tell.
pub mod SheetText
pub mod AsWritten
pub mod Writing
pub mod WritingLaws
pub mod TellLaws
pub mod TextLaws
