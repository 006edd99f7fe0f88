-- Facts that the proofs of this crate share, and those of the crate above it.
pub mod Finding
