-- In reading order: walks and their growth in any graph, scales, rows as a graph, how an
-- interval is written, limits of numbers, the diagonal blocks of a ranking, events of a run, what actors keep, and the
-- words of the shared state.
pub mod Walks
pub mod Growth
pub mod Scale
pub mod Rows
pub mod IntervalText
pub mod Limits
pub mod Blocks
pub mod Events
pub mod Actors
pub mod SharedWords
pub mod Maker
pub mod MakerInside
pub mod RowsInside
