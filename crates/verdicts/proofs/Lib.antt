-- Laws that the proofs cite.
pub mod MemberLaws
pub mod EvalLaws
pub mod Known
