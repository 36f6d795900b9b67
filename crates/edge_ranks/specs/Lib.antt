-- The definitions on lists of ranks: their array, what labels add, and what a list of all edges holds.
-- The contracts of the functions that make the lists, and of the test by them, are stated with these.
pub mod Lists
