-- Laws that the proofs cite.
pub mod Lines
pub mod Decimals
pub mod Short
pub mod Printing
pub mod Telling
pub mod Examples
