-- What the C interface answers, and what its answers tell.
-- The contracts of the conversions, and of the calls over them, cite these.
pub mod Numbers
