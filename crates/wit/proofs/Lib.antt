-- Laws that the proofs cite.
pub mod LineLaws
pub mod Stepping
pub mod Answer
pub mod Larger
pub mod Parts
pub mod Sound
pub mod Numbers
