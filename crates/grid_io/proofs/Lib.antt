-- Facts that the proofs of this crate and of the programs share.
pub mod Reading
pub mod Running
