-- What the comparison of two modules is.
pub mod View
pub mod Differences
pub mod Rank
pub mod Compared
pub mod Numbers
pub mod Part
