-- In the order in which they are read.
pub mod Verdict
pub mod Plan
pub mod Walk
pub mod Slots
pub mod Account
pub mod Taken
pub mod Feed
pub mod Run
pub mod Prompt
pub mod Went
