-- Planning as a call: what it answers, the laws behind the code, and what is proved of the answers.
pub mod Calls
pub mod Planning
pub mod CallLaws
pub mod PlanMask
pub mod PlanningLaws
pub mod Answers
pub mod Longer
