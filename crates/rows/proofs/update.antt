-- What an update stands on: two rows that cross, the bytes that move, and the test for a row that vanishes.
pub mod CrossedRows
pub mod Exchanging
pub mod Moving
pub mod Updating
pub mod Vanishing
