-- Weighing an order: what it asks and gives, and the laws behind the code.
pub mod Weighing
pub mod WeighingLaws
