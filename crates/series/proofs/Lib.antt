-- The proofs of the statements.
pub mod Theorems
pub mod Files
pub mod Soles
pub mod Policies
pub mod Examples
