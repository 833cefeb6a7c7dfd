-- The laws of decimal digits and of writing into a lent buffer, and worked cases.
pub mod DecimalLaws
pub mod WritesLaws
pub mod Cases
