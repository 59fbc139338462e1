-- What the promises cite.
pub mod Piece
pub mod Directive
pub mod Reader
pub mod View
pub mod Eight
pub mod Heard
