-- What the promises cite.
pub mod Evaluate
pub mod Records
