pub mod Curves
pub mod Start
pub mod Turns
pub mod Entry
pub mod Finish
pub mod Examples
