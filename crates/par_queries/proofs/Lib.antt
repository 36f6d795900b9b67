-- The laws of query lines and of printed lines.
-- The proofs of the functions that answer a query rest on them.
pub mod PrintedLines
pub mod QueryLineLaws
