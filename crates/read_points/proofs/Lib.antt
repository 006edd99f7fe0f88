-- Facts that the proofs of this crate share.
pub mod RankLaws
pub mod Records
pub mod Passed
