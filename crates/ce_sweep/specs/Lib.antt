-- In reading order: keys of angles and their classes, answers, the angles of a probe, and what solving
-- by keys and copying keep.
pub mod Classes
pub mod Answers
pub mod Probe
pub mod AnswersInside
