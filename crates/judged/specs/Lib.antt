-- What each call that the comparison drives answers: the port's own definitions, in structs of numbers.
pub mod Rows
pub mod Policies
pub mod Manifests
pub mod Compares
pub mod Cursors
pub mod Words
