-- The definitions of the exercise block and its states, a file for each idea.
-- The language and the public calls are stated with them.
pub mod Terms
pub mod Layout
pub mod Validity
pub mod States
pub mod Remapping
pub mod Sides
