-- What each call of the C interface answers.
pub mod Reading
pub mod Policies
pub mod Interface
