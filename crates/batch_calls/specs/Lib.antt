-- The definitions of the call on many queries.
-- Its value and its promise.
pub mod Batches
