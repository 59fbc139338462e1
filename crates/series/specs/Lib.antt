-- What a series of builds can hide, and policies by what they allow: the statements.
pub mod Steps
pub mod Policies
pub mod Claims
pub mod Examples
