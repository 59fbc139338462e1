-- What a replacement keeps: the statements.
pub mod Passing
pub mod Builds
pub mod Claims
pub mod Examples
pub mod Strict
