-- what the demands of open jobs are
pub mod DemandFacts
-- the work inside an interval, and the search through starts and ends
pub mod WorkInside
pub mod Searching
-- the open jobs in their places, and lists with one more or one less
pub mod Places
pub mod Jobs
-- calls leave lawful books
pub mod Keeping
pub mod Striking
pub mod Offering
-- the settings in force, and what they draw
pub mod Planning
pub mod Copying
pub mod Billing
-- the critical blocks
pub mod CriticalBlocks
-- the ready jobs of a tick, and serving them
pub mod Ready
pub mod Serving
-- a tick leaves a lawful book
pub mod Ticking
-- the image of a book
pub mod Images
