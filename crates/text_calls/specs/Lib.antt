-- What the call that reads an exercise promises.
-- Its contract names this.
pub mod Reading
