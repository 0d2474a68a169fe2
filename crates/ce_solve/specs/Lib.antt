-- In reading order: runs as logs, the vectors of closing bounds, what a run begins with, what it comes
-- to over rows and for an angle, its limits, its actors, and what hiring, joining and closing keep.
pub mod ChaoticRun
pub mod ClosingVectors
pub mod Prepared
pub mod SolvedRows
pub mod SolvedAngle
pub mod Limits
pub mod Actors
pub mod ActorsInside
