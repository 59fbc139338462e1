-- What an import asks for is not looked at: the statements.
pub mod Claims
pub mod Example
