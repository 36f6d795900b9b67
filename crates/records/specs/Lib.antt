-- The definitions of records.
-- What a query's bytes ask, and the bytes that answer it; what those mean.
pub mod Records
pub mod Meaning
