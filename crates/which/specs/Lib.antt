-- Which way a number is bad: what is claimed, and a case of each claim.
pub mod Claims
pub mod Cases
