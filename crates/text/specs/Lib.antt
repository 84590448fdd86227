-- Numbers as text: the figures of a number, lines of figures, and writing them into a lent buffer.
pub mod Decimal
pub mod Value
pub mod Figures
pub mod Buffer
pub mod Writing
pub mod BufferLaws
pub mod WritingLaws
pub mod Filling
