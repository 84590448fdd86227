-- Profiles: the definitions by the rules, and their laws.
pub mod Profile
pub mod NoWorse
