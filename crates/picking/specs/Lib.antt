-- The repeats of a frame picked one by one: what stands on the way, and its laws.
pub mod Picking
pub mod PickingLaws
pub mod PuttingLaws
