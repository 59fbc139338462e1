-- What the promises cite.
pub mod Requirements
pub mod Filling
pub mod Interfaces
