-- The calls' answers by any way of planning, and that rows, lists and the rules give the same.
pub mod Over
pub mod Same
