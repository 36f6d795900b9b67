-- The laws of terms, of the layout, of accepted blocks and of states.
-- The language and the public calls read a block by these laws, and not by its layout.
pub mod TermCases
pub mod Offsets
pub mod FrameLaws
pub mod Accepted
pub mod StateLaws
pub mod RemappingLaws
