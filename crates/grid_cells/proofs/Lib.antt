-- Facts that the proofs of this crate share, and what an answer tells of the cells: Told.
pub mod Rows
pub mod Looked
pub mod Told
