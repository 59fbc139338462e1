-- Laws: which way a number is bad.
pub mod Sorting
pub mod Telling
pub mod Narrowed
pub mod Theorems
