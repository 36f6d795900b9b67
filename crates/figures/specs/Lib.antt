-- Figures by the tables of all maps.
-- The search is stated with these.
pub mod Figures
