mod Digits
pub mod Reduced
pub mod Unique
pub mod FareySteps
pub mod FareyList
pub mod Compared
pub mod OneList
pub mod Cuts
pub mod Numbers
pub mod ReadBack
