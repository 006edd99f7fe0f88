-- Facts that the proofs of this crate share; its theorems, SameSurvey; and what an answer tells, Told.
pub mod Encoded
pub mod Fitting
pub mod SameSurvey
pub mod Told
