-- The choice that a mask says, and the starts that go with it.
pub mod Picks
pub mod PicksLaws
pub mod StartsLaws
