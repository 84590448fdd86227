-- The points of cells, written one by one.
pub mod Points
pub mod PointsLaws
pub mod CellPoints
