-- Laws that the proofs cite.
pub mod Quotes
pub mod HeardLaws
pub mod Lines
pub mod LoopLaws
pub mod Meaning
pub mod EightLaws
pub mod Fitting
pub mod Known
