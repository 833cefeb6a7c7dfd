-- The laws of sums that other crates cite, and worked sums.
pub mod XorLaws
pub mod SumLaws
pub mod ByteLaws
pub mod Cases
