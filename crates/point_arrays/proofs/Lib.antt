-- Facts that the proofs of this crate share.
pub mod HeldLaws
pub mod ReadLaws
pub mod EditLaws
