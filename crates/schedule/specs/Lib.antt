-- demands, their work, and what a list of settings has to do
pub mod Sums
pub mod Demands
pub mod Work
pub mod Overload
pub mod Sharing
pub mod Edf
pub mod Draws
-- the settings in force, and three ways to them: lowering, placing, a certificate
pub mod Settled
pub mod Lowering
pub mod InForce
pub mod Placing
pub mod Certificate
-- critical blocks
pub mod Compressed
pub mod BestPair
pub mod Rounds
pub mod Blocks
pub mod Critical
-- the laws, and small books by their numbers
pub mod Examples
pub mod Answers
pub mod Cases
pub mod Theory
