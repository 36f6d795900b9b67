-- The definitions on the tables of all maps.
-- The calls on tables, and the search, are stated with them.
pub mod MapTables
