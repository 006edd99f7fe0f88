-- Facts that the proofs of this crate share.
pub mod Counting
pub mod Filling
pub mod IndexLaws
