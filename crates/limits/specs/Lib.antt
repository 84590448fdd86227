-- The tests of a job, as the code makes them.
pub mod Tests
