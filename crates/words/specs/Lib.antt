-- The definitions on words, a file for each idea.
-- Packing, compiled sides, ranks by words, and what the arrays say of a block.
pub mod Packing
pub mod Code
pub mod Sides
pub mod Ranking
pub mod Compiled
pub mod Changes
