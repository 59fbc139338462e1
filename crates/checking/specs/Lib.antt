-- What the promise cites.
pub mod Checking
