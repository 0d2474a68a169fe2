-- In reading order: power iteration, one step of the relaxation, the start of a run; then which
-- entries a round changes, and what the fields of a relaxer stand for.
pub mod PowerIteration
pub mod Relaxation
pub mod Start
pub mod GrowingInside
pub mod RelaxerInside
