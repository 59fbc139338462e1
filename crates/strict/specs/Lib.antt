-- What the promises of strict are written in: the second walk, and the eight rules.
pub mod Again
pub mod Quick
pub mod Rules
pub mod Cases
pub mod Claims
pub mod Shapes
