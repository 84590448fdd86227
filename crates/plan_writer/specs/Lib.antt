-- Writing an order's own plan: what it answers, the laws behind the code, and what is proved of the answers.
pub mod Calls
pub mod Asks
pub mod Kept
pub mod OwnPlans
pub mod CallLaws
pub mod Answers
