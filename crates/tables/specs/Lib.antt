-- The definitions on tables, a file for each idea.
-- The relabelled exercise as a graph over ranks; estimates and the test.
pub mod Abstraction
pub mod Tables
pub mod BySides
