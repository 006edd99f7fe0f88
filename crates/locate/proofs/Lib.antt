-- Facts that the proofs of this crate share, and those that its callers need.
pub mod LeadingLaws
pub mod SearchLaws
pub mod IndexLaws
