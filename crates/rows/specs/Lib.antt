pub mod Bytes
pub mod Jobs
pub mod Results
pub mod Work
pub mod Demands
pub mod Filling
pub mod View
