-- What the search stands on: the mathematics over any field (Steps, Fitting, Passes, Found), then its curve and messages in bytes.
pub mod Steps
pub mod Fitting
pub mod Passes
pub mod Found
pub mod Laying
pub mod LowestPower
pub mod Shifting
pub mod Keeping
pub mod Levels
