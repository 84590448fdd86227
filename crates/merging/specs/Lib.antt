-- Two lists of points merged in the work area.
pub mod Turns
pub mod TurnLaws
pub mod TurnPoints
pub mod Fronts
pub mod Joins
pub mod Laying
pub mod JoinLaws
