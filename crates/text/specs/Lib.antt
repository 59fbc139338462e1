-- What the clauses of src/ cite, and what the definitions are held to (Claims).
pub mod Scan
pub mod Walk
pub mod Find
pub mod Order
pub mod Lines
pub mod Ranges
pub mod Utf8
pub mod Encode
pub mod White
pub mod Chars
pub mod Trim
pub mod Steps
pub mod Whole
pub mod Piece
pub mod Claims
