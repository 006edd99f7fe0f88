-- Facts that the proofs of this crate share, and theorems over its contracts.
pub mod Becoming
pub mod Replying
pub mod Calling
pub mod Looking
