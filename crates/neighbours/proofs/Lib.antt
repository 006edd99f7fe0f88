-- Facts that the proofs of this crate share.
pub mod Gathering
pub mod FirstPoints
pub mod Filling
