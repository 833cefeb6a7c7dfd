-- In the order in which they are read.
pub mod Decimal
pub mod Writes
