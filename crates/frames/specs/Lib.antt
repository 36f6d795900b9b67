-- The definitions of text, a file for each idea.
-- Lines of digits, places in a text, an exercise read from its lines, and the text of a block.
pub mod Lines
pub mod Places
pub mod Reading
pub mod Writing
