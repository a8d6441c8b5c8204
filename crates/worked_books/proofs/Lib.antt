-- books made by offers, what is written into lists, what a tick serves, and bills
pub mod Offers
pub mod Writing
pub mod Serving
pub mod Billing
-- the worked books
pub mod Worked
