pub mod Certified
pub mod Order
mod FirstSymbols
mod Entries
mod OneAddress
mod Counted
mod Sizes
mod Rows
pub mod ClassIntervals
mod OneAtlas
mod Plain
mod Lines
