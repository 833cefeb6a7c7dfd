-- The calls that any caller makes of a walker to feed a log and then close (document 01, demand 3), as the code makes them: runs, as `Run` of
-- `pieces` defines them, of the code's walker and the code's promises.
--   Feeds, Closes       `FeedSays` and `CloseSays` of `walker`, of an outcome. The forms by value and the forms where the walker lies share them, so a
--                       run may use either form at each call. A close has the hold to read only
--   Run log w last cs   a run: each feed is given any beginning of the log's bytes not taken yet, a close comes when none are left, after a stop any
--                       call may follow, and each hold has full size and agrees with the last on the held bytes only
--   InOrder ps w last cs   the calls that feed a list of pieces in order, what is left of a piece again after a record, and then close
--   Called w            some calls from a fresh walker on, of any pieces and over any holds, left the walker w
--   call_of, calls_of     the same calls in the terms of `pieces`, over which `Prompt` is stated
-- Assumes nothing.
use Rattle.std.specs.Prelude.{ℕ, ◌≡◌, List}
use Rattle.refusal.specs.Limits.{hold_full}
use Rattle.pieces.specs.Account.{With}
use Rattle.pieces.specs.Feed.{Outcome}
use Rattle.pieces.specs.Feed as F
use Rattle.pieces.specs.Run.{call_seen, calls_seen}
use Rattle.pieces.specs.Run as R
use Rattle.record.specs.declared.Shape.{Shape}
use Rattle.record.specs.declared.Slot.{Slot}
use Rattle.standing.specs.Standing.{Standing}
use Rattle.walker.specs.declared.Walker.{Walker}
use Rattle.walker.specs.Walker.{walker_of, reply_by, fresh_walker, FeedSays, CloseSays}

abbrev pub Feeds : Walker → List ℕ → List ℕ → Outcome Walker Slot → Type 0
Feeds w hold piece o = FeedSays w hold piece (reply_by o) o.walker o.hold

abbrev pub Closes : Walker → List ℕ → Outcome Walker Slot → Type 0
Closes w hold o = CloseSays w hold (reply_by o) o.walker × (o.hold ≡ hold)

abbrev pub Call : Type 0
Call = R.Call Walker Slot

abbrev pub held_by : Walker → ℕ
held_by w = w.held

abbrev pub Run : List ℕ → Walker → List ℕ → List Call → Type 0
Run log w last cs = R.Run hold_full held_by Feeds Closes log w last cs

abbrev pub InOrder : List (List ℕ) → Walker → List ℕ → List Call → Type 0
InOrder ps w last cs = R.InOrder hold_full held_by Feeds Closes ps w last cs

pub data Called : Walker → Type 0 where
  opened : Called fresh_walker
  after_feed : {w : Walker} (hold piece : List ℕ) (o : Outcome Walker Slot) → Called w → Feeds w hold piece o → Called o.walker
  after_close : {w : Walker} (hold : List ℕ) (o : Outcome Walker Slot) → Called w → Closes w hold o → Called o.walker

abbrev pub call_of : Call → R.Call (F.Walker (With Shape Standing)) Slot
call_of c = call_seen walker_of c

abbrev pub calls_of : List Call → List (R.Call (F.Walker (With Shape Standing)) Slot)
calls_of cs = calls_seen walker_of cs
