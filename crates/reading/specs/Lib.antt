-- What is read off a list of points in the work area.
pub mod Reading
pub mod ReadingLaws
pub mod LastBy
pub mod Listing
