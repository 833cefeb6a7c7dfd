-- The theorems, and the laws that they rest on. Read first:
--   Acceptance, Refusals, Slots   a walk into slots (demands 1 and 2)
--   ByTurns, Readers              the walk by turns; the readers on what a walk accepted
--   Pieces, OwnAnswers, Range     feeding by pieces (demand 3)
--   Standing                      serials, counts and tallies (document 02, Req 03)
--   Sizes                         the last-size rule no longer shows from a fresh start (document 02, Req 04)
--   Bent                          one byte of a GPT header that is another is told (document 02, Req 06)
--   Joined                        both: what a walk into slots says and what any run tells
--   Writing, WritingByNumber      records and logs that are written (document 02, Req 01)
--   OneOutcome                    each promise leaves one outcome
--   ListingTurns                  the listing, turn by turn
--   Bench, FeedCases              document 01's starred logs; feeds and closes written out
--   Idle, IdleFeeds, IdleWriters  programs that do not meet the promises
--   Example, ExampleRun, ExampleWriting   the premises are met
-- What leads there stands with what it is about: proofs/Explained.antt of `record`, proofs/Means.antt of `walk`, proofs/Promptness.antt and
-- proofs/Agreement.antt of `pieces`; RunLaws is between the code's runs and those.
pub mod Acceptance
pub mod Refusals
pub mod Slots
pub mod Bench
pub mod Example
pub mod Idle
pub mod ByTurns
pub mod RunLaws
pub mod Readers
pub mod Pieces
pub mod Standing
pub mod Sizes
pub mod Bent
pub mod Joined
pub mod ExampleRun
pub mod IdleFeeds
pub mod OneOutcome
pub mod ListingTurns
pub mod OwnAnswers
pub mod Range
pub mod FeedCases
pub mod Writing
pub mod WritingByNumber
pub mod IdleWriters
pub mod ExampleWriting
