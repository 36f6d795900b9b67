-- What public calls answer and refuse with.
-- The contract of every public call is made of these.
pub mod Answers
pub mod Refusals
