-- Facts that the proofs of this crate share.
pub mod Powers
pub mod Lines
pub mod Signs
