-- Laws that the proofs cite.
pub mod Telling
pub mod Long
pub mod Enough
