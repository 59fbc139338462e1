-- What the promises cite.
pub mod Line
pub mod Decimal
pub mod Words
pub mod Texts
pub mod Prints
