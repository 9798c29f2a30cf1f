pub mod Messages
pub mod Lists
pub mod Agreements
pub mod Answer
pub mod Listing
pub mod Searching
pub mod Determined
