pub mod Field
pub mod Lists
pub mod BitPolynomials
pub mod Symbols
pub mod Operations
pub mod Kernels
pub mod Choices
pub mod Examples
