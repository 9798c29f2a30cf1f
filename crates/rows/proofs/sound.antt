-- What the entry test stands on.
pub mod Soundness
