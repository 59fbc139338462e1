-- Laws of the second walk and of the rules.
pub mod Differing
pub mod Newness
pub mod Ruling
pub mod Marking
pub mod Judging
pub mod Seeing
pub mod Strictly
pub mod Room
pub mod Numbered
