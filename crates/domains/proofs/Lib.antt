-- Laws that the proofs cite.
pub mod DomainLaws
pub mod Known
pub mod Tables
