-- The walk by turns (document 01, "The whole walk"), as the code makes it: `next_record` called from a cursor, and again from where it led, until it
-- stops.
--   Turns log c counts tallies rs e   the calls from the cursor c on, with these counts and tallies lent, gave the records rs, and then stopped
--                                     with e
--   Reached log c                     turns from the log's start on, whatever was lent to each, led to the cursor c
-- `TurnSays` is the promise of the code (specs/Turn.antt of `walk`). Assumes nothing.
use Rattle.std.specs.Prelude.{ℕ, ◌≡◌, List, [], ◌∷◌}
use Rattle.refusal.specs.declared.Ending.{Ending}
use Rattle.record.specs.declared.Cursor.{Cursor}
use Rattle.record.specs.declared.Slot.{Slot}
use Rattle.record.specs.declared.Turn.{Turn}
use Rattle.walk.specs.declared.Turned.{Turned}
use Rattle.walk.specs.Turn.{opening_cursor, TurnSays}

pub data Turns (log : List ℕ) : Cursor → List ℕ → List ℕ → List Slot → Ending → Type 0 where
  stops : {c : Cursor} {counts tallies : List ℕ} (t : Turned) (counts' tallies' : List ℕ) (e : Ending) → TurnSays log c counts tallies t counts' tallies'
      → t.turn ≡ Turn.Stop e → Turns log c counts tallies [] e
  goes : {c : Cursor} {counts tallies : List ℕ} {rs : List Slot} {e : Ending} (t : Turned) (counts' tallies' : List ℕ) (slot : Slot)
      → TurnSays log c counts tallies t counts' tallies' → t.turn ≡ Turn.Record slot → Turns log t.next counts' tallies' rs e
      → Turns log c counts tallies (slot ∷ rs) e

pub data Reached (log : List ℕ) : Cursor → Type 0 where
  opens : Reached log opening_cursor
  turns : {c : Cursor} (counts tallies : List ℕ) (t : Turned) (counts' tallies' : List ℕ) → Reached log c → TurnSays log c counts tallies t counts' tallies'
      → Reached log t.next
