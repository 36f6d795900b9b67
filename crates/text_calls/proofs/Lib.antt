-- What the proof of the call that reads an exercise rests on.
-- The value that the call gives is turned into what it promises.
pub mod Promises
