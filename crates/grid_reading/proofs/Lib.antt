-- Facts that the proofs of this crate share.
pub mod Decoded
pub mod Answers
