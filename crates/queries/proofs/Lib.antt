-- The laws of what a search is asked.
-- The search call, and the answers to records, rest on them.
pub mod QueryLaws
