-- What the promises cite.
pub mod Writer
pub mod Writing
pub mod Token
pub mod Claims
