-- the demands
pub mod Plannable
-- what is allocated, and where the next unit goes
pub mod Plan
pub mod Queued
pub mod Hull
-- the rounds of critical blocks
pub mod Pair
pub mod Ticks
pub mod Blocks
pub mod Rounds
