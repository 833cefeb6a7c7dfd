-- What a walk over lent slots, a feed and a close may answer: the words in which their theorems are stated.
--   records_of log              the records of the whole log with their serials, which are none where it is over the limit
--   Numbered P rs              the records rs without their serials are such as P says, and the serials are theirs
--   Filled r slots rs e        the first slots hold the records rs, and the walk ended so
--   Breaks log old rs why at   the log is within the limit, there are slots enough, and it begins with rs; then follows what is refused
--   OfFeed, OfClose            what a feed and a close may say of their own, where the walker keeps no answer (document 01, "feeds, having no slots,
--                              never answer 1 or 12")
-- Assumes nothing.
use Rattle.std.specs.Prelude.{ℕ, ◌≤◌, ◌≡◌, List, [], ◌⊎◌, length, take}
use Rattle.refusal.specs.declared.Ending.{Ending}
use Rattle.refusal.specs.declared.Why.{Why}
use Rattle.refusal.specs.Limits.{log_most}
use Rattle.refusal.specs.Refusals.{Work, Origin, origin_of}
use Rattle.record.specs.declared.Slot.{Slot}
use Rattle.record.specs.Met.{OfRecord}
use Rattle.standing.specs.Serials.{numbered, whole_told}
use Rattle.walk.specs.declared.Walked.{Walked}
use Rattle.walk.specs.Fill.{walked_of}
use Rattle.walk.specs.Divides.{Broken}
use Rattle.walker.specs.declared.Answer.{Answer}

abbrev pub records_of : List ℕ → List Slot
records_of log = (whole_told log).records

abbrev pub Numbered : (List Slot → Type 0) → List Slot → Type 0
Numbered P rs = (bare : List Slot) × (rs ≡ numbered [] bare) × P bare

abbrev pub Filled : Walked → List Slot → List Slot → Ending → Type 0
Filled r slots rs e = (r ≡ walked_of (length rs) e) × (take (length rs) slots ≡ rs)

abbrev pub Breaks : List ℕ → List Slot → List Slot → Why → ℕ → Type 0
Breaks log old rs why at = (length log ≤ log_most) × (length rs ≤ length old) × Broken log rs why at

-- more, a record, or a refusal: 3 to 11, or one of feeding; never the end
abbrev pub OfFeed : Answer → Type 0
OfFeed Answer.More = Unit {0}
OfFeed (Answer.Record slot) = Unit {0}
OfFeed (Answer.Stop (Ending.End at tail)) = ⊥
OfFeed (Answer.Stop (Ending.Refused r)) = OfRecord r.why ⊎ (origin_of r.why ≡ Origin.work Work.feeding)

-- a record, the end, or a refusal: 3 to 11, 2 or 14; never more
abbrev pub OfClose : Answer → Type 0
OfClose Answer.More = ⊥
OfClose (Answer.Record slot) = Unit {0}
OfClose (Answer.Stop (Ending.End at tail)) = Unit {0}
OfClose (Answer.Stop (Ending.Refused r)) = OfRecord r.why ⊎ (r.why ≡ Why.FieldCut) ⊎ (r.why ≡ Why.OutOfRange)
