-- What the promises cite, and what is claimed of it.
pub mod Escape
pub mod Words
pub mod Texts
pub mod Review
pub mod Claims
