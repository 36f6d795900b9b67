-- The definitions of filling the tables of all maps.
-- The call that fills tables is stated with them.
pub mod MapFills
