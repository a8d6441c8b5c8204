-- the demands
pub mod Orders
-- plans of the code as states of the theory, and starts of hulls
pub mod States
pub mod LowEnds
-- the queue of a hull
pub mod Slots
pub mod Queueing
pub mod Hulls
-- units and demands, one after the other
pub mod Runs
-- the rounds of critical blocks
pub mod Windows
pub mod TickLists
pub mod Compressing
pub mod NextRound
pub mod Starting
