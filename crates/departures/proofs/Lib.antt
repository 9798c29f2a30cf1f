pub mod DepartureLaws
pub mod Outcomes
pub mod RoundTrip
pub mod Telling
pub mod Hearing
pub mod Determined
