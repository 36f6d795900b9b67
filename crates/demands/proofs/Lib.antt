-- The demands hold.
-- A file for what turns a call back, and one for all of them.
pub mod TurnedBack
pub mod Demands
