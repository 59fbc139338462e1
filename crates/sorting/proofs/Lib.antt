-- Laws of orders, of the sorted list, and of the table that it is made in.
pub mod Orders
pub mod Sorts
pub mod Firsts
pub mod Places
pub mod Rowing
pub mod Placing
pub mod Listing
pub mod Ranking
pub mod Numbers
pub mod Examples
