-- The definitions of a query line and its answer.
-- What a query asks, the search that it asks for, and the line that answers it.
pub mod QueryLines
