pub mod Polynomials
pub mod Limits
pub mod Table
pub mod Refusals
pub mod Encode
pub mod Lent
pub mod Buffers
pub mod Examples
