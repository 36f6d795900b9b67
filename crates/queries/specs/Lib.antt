-- The definitions of what a search is asked.
-- What turns a query back is stated with these.
pub mod Queries
