-- What a round carries.
-- The contracts of the functions on tallies are stated with this, and so are those of the search.
pub mod Tallies
