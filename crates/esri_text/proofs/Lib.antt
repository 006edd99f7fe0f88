-- Facts that the proofs of this crate share.
pub mod Header
pub mod Rows
