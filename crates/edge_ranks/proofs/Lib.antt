-- The laws of lists of ranks: how a list grows by labels, that it then holds every edge, and that labels add to ranks.
-- The proofs of the functions that make the lists rest on these.
pub mod Growing
pub mod Listing
pub mod Exchanges
pub mod Additivity
