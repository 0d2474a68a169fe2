mod Slots
pub mod OneMore
mod Talking
mod Writing
mod Reading
mod Sessions
mod Closed
mod Openings
mod Ended
mod BrokenOff
mod NoQuit
mod Beside
mod Dealing
mod Closings
mod Answered
mod Concluded
mod Stopped
mod Hiring
mod Running
pub mod Sound
