-- the order of the elements
pub mod Order
pub mod Elements
-- the slots and the tree that lies in them
pub mod Slots
pub mod Tree
-- what the calls say
pub mod Refusals
pub mod Says
