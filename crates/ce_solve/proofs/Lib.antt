pub mod Joins
pub mod Closing
mod ClosingEnds
pub mod FloorEnds
pub mod Beginnings
pub mod RunsEnclose
pub mod Assembling
pub mod After
pub mod SolvedRuns
pub mod NoTurns
mod LoneLogs
pub mod LoneHalts
pub mod LoneRuns
pub mod LoneClosing
pub mod NoTurnsClosing
pub mod Enclosing
pub mod ReadingsAround
pub mod ReadingEnds
