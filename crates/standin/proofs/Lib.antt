-- The proofs of the statements.
pub mod Passing
pub mod Fitting
pub mod Builds
pub mod Domains
pub mod Limits
pub mod Explained
pub mod Cells
pub mod Theorems
pub mod Files
pub mod Examples
pub mod Strict
