-- What filling the rows stands on: the bytes while they are copied and multiplied.
pub mod Copies
pub mod Slots
pub mod LowRows
pub mod FilledRows
