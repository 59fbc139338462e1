-- What the structs hold.
pub mod Reading
pub mod Policies
pub mod Check
pub mod Answers
