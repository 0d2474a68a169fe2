-- In reading order: a desk and its refusals, the text of a desk, what is true of it, and what a desk
-- does to its streams; then a talk, what stands behind the slots, and the actors.
pub mod Desk
pub mod DeskText
pub mod Sound
pub mod Served
pub mod TalksInside
pub mod CasesInside
pub mod OpeningInside
pub mod ActorsInside
pub mod CrewsInside
pub mod ServedInside
