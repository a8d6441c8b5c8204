-- The image of a book: a list of 65 records of 24 bytes.
-- records joined into a list, and cut out of it
pub mod RecordLists
-- the book that a list says: it is well-formed where no record is wrong
pub mod BookSaid
-- which record is the first wrong one
pub mod FirstWrongRecord
-- load accepts the images of lawful books, and no others
pub mod AcceptedImages
-- the image as it is written, record by record
pub mod ImageWritten
-- the image as it is read, record by record
pub mod ImageRead
