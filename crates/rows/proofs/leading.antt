-- What the search for a leading term stands on.
pub mod Finding
