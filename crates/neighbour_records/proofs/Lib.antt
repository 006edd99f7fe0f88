-- The laws that the proofs here and in the survey share.
pub mod Rows
