-- What the promises cite, and what is claimed of it.
pub mod Printed
pub mod Claims
