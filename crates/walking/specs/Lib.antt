-- The walk back over the lists in the work area.
pub mod Trail
pub mod Sources
pub mod TrailLaws
