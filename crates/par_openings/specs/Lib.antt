-- The definitions of opening an exercise.
-- Which lines the reader receives, what turns an input back, and what opening leaves.
pub mod Openings
