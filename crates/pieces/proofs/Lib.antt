-- Laws and theorems of cutting a log into records and feeding it by pieces, over any judge that keeps the laws of specs/Verdict.antt.
-- Read the two theorems first; the rest is there for them and for the code that is proved against these definitions.
--   Agreement      every run that stopped, or has a close, told what the walk of the whole log tells; feeding pieces in order is a run
--   Promptness     every call of every run, in terms of the walk of beginnings of the log: what it gives, that nothing shorter gives it,
--                  what it takes and writes, and that it repeats itself after a stop
-- Besides these, of the walker that a call leaves:
--   RunWent        after every call of every run the records given lead to the walker's shape, and it is in range
-- For a format: give its plan, and take the laws from `read-steady` and `read-within`. Toy is a whole instance, with worked cases.
--   PlanLaws       reading by any plan keeps the laws; the cases of a field; invariants of its records and refusals
--   FieldLaws      reading by a plan where the bytes are known field by field
--   VerdictLaws    what follows at once from the laws
-- For the code of a walk, of slots and of a feed:
--   WalkLaws       the walk's equation and its cases, induction by records, logs past the limit
--   SlotLaws       k slots hold the first k records; the turns of a loop that fills them
--   AccountLaws    a judge that carries an account beside the shape: the laws, the bytes taken, the walk with its records marked
--   TakenLaws      the number of bytes taken is least; found field by field, and by reading on
--   FeedLaws       the tests in their order, held bytes that answer already, what is written and that the hold fits
-- What the theorems rest on, in this order:
--   RunLaws        lists of calls, one after the other
--   WentLaws       records that were read one after the other
--   Beginnings     the walk of beginnings of a log
--   OneCall        what one call does to a walker that a run has reached
--   Reached        by induction, every call of every run
pub mod Agreement
pub mod Promptness
pub mod RunWent
pub mod Toy
pub mod Cases
pub mod PlanLaws
pub mod FieldLaws
pub mod VerdictLaws
pub mod WalkLaws
pub mod SlotLaws
pub mod AccountLaws
pub mod TakenLaws
pub mod FeedLaws
pub mod RunLaws
pub mod WentLaws
pub mod Beginnings
pub mod OneCall
pub mod Reached
