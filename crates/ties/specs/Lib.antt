-- Which of two openings wins: the definition, both sides of its edges, and laws.
pub mod Winning
