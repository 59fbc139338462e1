-- What the writer of reasons promises.
pub mod Reasons
