-- What is promised of the table.
pub mod Table
