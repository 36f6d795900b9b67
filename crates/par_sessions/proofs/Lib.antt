-- The laws of a session's buffer.
-- The loop over the query lines rests on them.
pub mod PrintedSoFar
