pub mod LentLaws
pub mod Calling
pub mod Determined
pub mod Driving
pub mod Cutting
pub mod Hearing
