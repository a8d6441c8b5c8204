-- sums and work
pub mod SumsLaws
pub mod WorkLaws
pub mod OverloadLaws
-- Hall's condition for intervals, by serving the earliest deadline first
pub mod Readings
pub mod EdfStep
pub mod Sorting
pub mod Hall
-- settled settings are unique, and the least in every way
pub mod Finding
pub mod SettledLaws
pub mod Cover
pub mod Least
pub mod DrawLaws
pub mod Squares
-- they are found by lowering, and by placing unit by unit
pub mod LoweringLaws
pub mod Poised
pub mod Insertion
pub mod Deadlines
pub mod PlacingLaws
-- so they are in force, and a tick serves the first of them
pub mod InForceLaws
pub mod TickLaws
pub mod CertificateLaws
-- critical blocks: compressed time, the best pair, the rounds, their densities and the work of each
pub mod Ratios
pub mod CompressedLaws
pub mod Leading
pub mod BestPairs
pub mod StartToEnd
pub mod BestSearch
pub mod RoundsEnd
pub mod Densities
pub mod BlockFacts
pub mod Blocked
-- all theorems
pub mod Examples
pub mod Cases
pub mod Theory
