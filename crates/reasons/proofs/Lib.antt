-- Laws that the writer of reasons cites, and its definitions at small tables.
pub mod Testing
pub mod Lines
pub mod KindWords
pub mod Fine
pub mod Examples
