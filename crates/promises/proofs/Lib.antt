-- The theorems.
pub mod Manifests
pub mod Refusals
pub mod RefusalsListed
pub mod NoThree
