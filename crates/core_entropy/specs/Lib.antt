-- In reading order: the headline; what a task is, and the table of the commands; the initial
-- enclosure, and the task of each command; which status is called for, what is read and written, the
-- statuses with their lines, and the words of the start. What loops keep, and what fields stand for,
-- is in the files named Inside.
pub mod Headline
pub mod Task
pub mod Table
pub mod InitialEnclosure
pub mod Angle
pub mod Degree
pub mod Show
pub mod Replay
pub mod Watch
pub mod Map
pub mod Part
pub mod Checked
pub mod Merge
pub mod Probe
pub mod Atlas
pub mod Compare
pub mod Desk
pub mod Calls
pub mod Output
pub mod Status
pub mod Input
pub mod Words
pub mod MapInside
pub mod UpgradeInside
pub mod ProbeInside
pub mod ErrorLineInside
