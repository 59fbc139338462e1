-- Laws of two lists of keys, of their ranks, and of the rows that each lacks.
pub mod Sameness
pub mod Ranking
pub mod Searching
pub mod Missing
pub mod Filling
pub mod Listing
pub mod Joining
pub mod Seeking
pub mod Unmarking
pub mod Answering
pub mod Printing
