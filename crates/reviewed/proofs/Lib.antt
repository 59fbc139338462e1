-- Laws that the proofs cite, and what they say of a name that is shown.
pub mod Escapes
pub mod Shown
pub mod Telling
pub mod Reading
pub mod Rooms
pub mod Ending
