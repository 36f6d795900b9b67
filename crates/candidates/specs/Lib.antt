-- The definitions on rules read backwards.
-- What is known of the tests that their left sides make.
pub mod Reversed
