-- The proofs of the statements.
pub mod Lists
pub mod Tables
pub mod Answers
pub mod Modules
pub mod Example
