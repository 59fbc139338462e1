-- Two lists of keys, and what each lacks of the other.
pub mod Keying
pub mod Quick
pub mod Rows
