-- Facts that the proofs of this crate share, and one that its caller needs.
pub mod Ends
