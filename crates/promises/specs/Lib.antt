-- In the order in which they are read. What a division is stands in `walk` (specs/Divides.antt), what a well-formed record is in `record`
-- (specs/Whole.antt, specs/Met.antt), what a run is and what promptness says in `pieces` (specs/Run.antt, specs/Prompt.antt).
pub mod Answers
pub mod Bench
pub mod Runs
pub mod Turns
pub mod Writing
