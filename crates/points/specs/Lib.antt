-- Lists of scheduling points from job to job, equal to the weight rows; and the plan, profile and worth made from them.
pub mod Steps
pub mod Walk
pub mod Ways
