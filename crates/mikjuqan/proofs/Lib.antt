-- What the proofs of the calls share.
-- They carry the answer, the buffer and the promise over from what `engine` ensures.
pub mod Carried
