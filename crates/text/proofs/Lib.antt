-- The laws of text that other crates cite.
pub mod Cases
pub mod ClassLaws
pub mod FaultLaws
pub mod PlainLaws
pub mod RowLaws
pub mod SequenceLaws
pub mod Table
pub mod TextLaws
pub mod WhyLaws
