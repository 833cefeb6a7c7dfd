-- The laws of the table, and a worked case.
pub mod TableLaws
pub mod Cases
