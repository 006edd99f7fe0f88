-- Facts that the callers' proofs need.
pub mod Coded
pub mod Told
