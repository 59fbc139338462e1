-- Laws of the tables handed in, and the definitions at small modules.
pub mod Tests
pub mod Both
pub mod Ranks
pub mod Numbered
pub mod Only
pub mod Examples
pub mod Places
