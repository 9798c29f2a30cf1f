pub mod Lines
pub mod NumberLists
pub mod Requests
pub mod Answers
pub mod Replies
pub mod Examples
pub mod Reading
pub mod Writing
