-- What the proofs of the call that replays a run rest on.
-- An accepting verdict is turned into what the layers below ask for, and the value that the call gives into what it
-- promises.
pub mod Conditions
pub mod Promises
