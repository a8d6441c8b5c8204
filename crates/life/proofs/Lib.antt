-- the rows of a tally
pub mod Rows
-- lists in another order
pub mod Reordering
-- the jobs and the rows after the entries of a tick
pub mod Entries
pub mod Feeding
-- a tally and a book that agree, and what is promised at each moment
pub mod Agreeing
pub mod Standing
-- the calls
pub mod Offering
pub mod Striking
pub mod Ticking
-- the law of whole lives
pub mod Beginning
pub mod Law
pub mod Handling
