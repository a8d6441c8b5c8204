-- jobs, what they demand, and books
pub mod Jobs
pub mod Demands
pub mod Book
-- the faults by their numbers
pub mod Refusals
-- what the calls answer and leave
pub mod Lists
pub mod Outcomes
pub mod Calls
pub mod Offers
pub mod Settings
pub mod Ready
pub mod Ticks
pub mod Blocks
pub mod Bills
-- the image of a book
pub mod Images
pub mod Reading
pub mod Loads
