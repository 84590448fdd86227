-- Every plan that is written is legal and best, and reads back as the plan.
pub mod Own
pub mod Written
