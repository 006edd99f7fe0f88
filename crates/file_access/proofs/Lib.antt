-- Facts that the proofs of this crate share, and those of the crates above it.
pub mod FileLaws
