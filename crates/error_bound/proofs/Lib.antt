-- How near the answer lies to the exact mean, in the order in which it can be read.
pub mod Fair
pub mod Factors
pub mod Weights
pub mod Means
pub mod Halves
pub mod MeanError
pub mod LessenedMean
pub mod SignedMean
pub mod AnswerNear
pub mod InRange
pub mod AnswerRight
pub mod BenchTable
