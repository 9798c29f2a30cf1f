pub mod Lent
pub mod Calls
pub mod DepartureCalls
pub mod Examples
