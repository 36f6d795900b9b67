-- The laws of further maps.
-- Tables under several maps, and the search by them, rest on these.
pub mod MapLaws
