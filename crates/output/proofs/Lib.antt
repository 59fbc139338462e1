-- Laws that the proofs cite.
pub mod CellLaws
pub mod Putting
pub mod ByteLaws
pub mod Words
pub mod Known
pub mod Writing
