-- Facts that the proofs of this crate share.
pub mod Numbered
pub mod Checks
