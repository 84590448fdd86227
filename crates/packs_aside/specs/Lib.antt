-- R44: plans and profiles do not read a job's pack, stated and proved over the outcomes that the calls' contracts allow.
pub mod PacksAside
pub mod Unread
