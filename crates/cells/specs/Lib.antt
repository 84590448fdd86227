-- Lists of points as cells by weight.
pub mod Cells
pub mod CellLaws
pub mod RisingCells
pub mod Laying
pub mod LayingLaws
pub mod Putting
pub mod Spreading
pub mod Pushing
