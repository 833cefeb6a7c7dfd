-- In the order in which they are read.
pub mod Rows
pub mod Unicode
pub mod Text
pub mod Classes
pub mod Sequences
pub mod Faults
