-- Facts that the proofs of this crate share.
pub mod MeanLaws
pub mod Values
pub mod Widths
pub mod SeenLaws
pub mod AnswerLaws
