-- Facts that the proofs of this crate share.
pub mod Exchange
pub mod KeyLaws
pub mod FirstLaws
