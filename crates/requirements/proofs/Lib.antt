pub mod Filling
pub mod Asking
