-- The definitions of what `par` prints.
-- The whole output of an input; what it means.
pub mod Output
pub mod Promises
