-- What the promises cite.
pub mod Bytes
pub mod Cells
pub mod Writing
