-- The laws of the tables of all maps.
-- The calls on tables, and the search call, rest on these.
pub mod Largest
pub mod Places
