-- In reading order: vectors, their quotients and bounds, certificates, where a run may start, and
-- what the loops keep.
pub mod Vectors
pub mod Quotients
pub mod Certificate
pub mod Evidence
pub mod Start
pub mod PassesInside
