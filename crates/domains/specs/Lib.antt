-- What the promises cite.
pub mod Domain
pub mod Classify
