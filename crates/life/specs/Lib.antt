-- the calls of a life, and what they answer
pub mod Events
-- the tally of a life
pub mod Tally
-- lives
pub mod Life
-- what is promised of every life
pub mod Promises
-- the requests of a console
pub mod Requests
