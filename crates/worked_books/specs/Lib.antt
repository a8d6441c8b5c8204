-- the numbers of the rules
pub mod Numbers
-- how a worked book is told
pub mod Words
-- the worked books
pub mod WorkedBooks
