-- The definitions of further maps.
-- The calls that may be lent further maps are stated with them.
pub mod Maps
