pub mod Disturbing
pub mod Voyage
