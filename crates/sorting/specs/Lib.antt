-- What an index table is.
pub mod Order
pub mod Sort
pub mod Keys
pub mod Filling
pub mod Claims
