-- The definitions of the fill.
-- The filled table and what its entries are; the words of the ranks.
pub mod FilledTables
pub mod RankWords
