pub mod BigEndian
pub mod Encodings
pub mod Labels
pub mod Layouts
pub mod OneForm
pub mod Readings
pub mod WrittenReads
