-- What each call answers, and what it writes.
pub mod Delivered
pub mod Modules
pub mod Manifests
pub mod Comparisons
pub mod Tokens
