-- What the proofs of the calls of stepping back and of reversible rules rest on.
-- An accepting verdict is turned into what the layers below ask for, and the value that a call gives into what the call
-- promises.
pub mod Conditions
pub mod Promises
