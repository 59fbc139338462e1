-- What the promises of wit are written in: what a line says, what the lines come to; and what holds of all that is read.
pub mod Line
pub mod Manifest
pub mod Sound
pub mod Shapes
