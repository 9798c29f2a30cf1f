pub mod Lists
pub mod Search
pub mod Examples
pub mod Job
pub mod Results
pub mod Searching
pub mod Work
pub mod Sought
