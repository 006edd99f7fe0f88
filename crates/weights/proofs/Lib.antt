-- Facts that the proofs of this crate share.
pub mod EdgeLaws
pub mod WeightLaws
pub mod Products
pub mod RowLaws
