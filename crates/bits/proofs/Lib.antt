pub mod Masks
pub mod Integers
