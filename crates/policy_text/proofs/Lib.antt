-- Laws that the proofs cite, and the round trip.
pub mod Bytes
pub mod Tokens
pub mod Written
pub mod Fine
pub mod Trip
pub mod Rewrite
pub mod WriteLaws
pub mod Known
pub mod TokenLaws
pub mod TokenLists
pub mod Asking
