-- What is claimed of a report's length.
pub mod Claims
