-- Laws that the proofs cite.
pub mod Laying
pub mod OfModule
pub mod OfManifest
pub mod Explaining
pub mod OfComparison
pub mod Listing
